use Rattle.std.proofs.Common.{Ok, refl, sym, ◌∙◌, arith}
use Rattle.lft_whole.specs.{declared.fault.TreeFault.TheVariants.Unexpected, Parts.Language.{ignored, repeat, inside, within}, inner.Parts.Parsing.source}
use Rattle.lft_whole.proofs.PartsLemmas.Loop.{loop_begins, loop_turns, loop_fails, loop_done}
use Rattle.lft_whole.proofs.parts.groups.closing_of.Goals as goal

pub group-init : goal.group-init
group-init c =
    record { between = (omega arith, c.requires); depths = omega arith; read = loop_begins (inside c.args.closing) (within c.args.opening c.args.closing) (source c.args.input.now) (λ a. Ok (tt, a.1)) 0 c.args.at (ignored (repeat (inside c.args.closing) (within c.args.opening c.args.closing) 0) (source c.args.input.now) c.args.at) refl }

pub group-preserved : goal.group-preserved
group-preserved c =
    let there = c.is_there.ensures.inside c.if-not-is_there.false in
    let between = c.group.invariant.between in
    record { between = (omega (arith, between.0), omega (arith, there)); depths = omega (arith, c.group.invariant.depths, c.depth_behind-depth.ensures.inside); read = rw c.depth_behind-depth.ensures.is (loop_turns c.group.invariant.read (sym c.is_inside.ensures.is ∙ c.group-test.true) (rw (sym c.is_there.ensures.is ∙ c.if-not-is_there.false) refl) (omega arith) (omega (arith, there))) }

pub returns-then-not-is_there-clause-gives : goal.returns-then-not-is_there-clause-gives
returns-then-not-is_there-clause-gives c = loop_fails (Unexpected c.group.next) c.group.invariant.read (sym c.is_inside.ensures.is ∙ c.group-test.true) (rw (sym c.is_there.ensures.is ∙ c.if-not-is_there.true) refl)

pub returns-clause-gives : goal.returns-clause-gives
returns-clause-gives c = loop_done c.group.invariant.read (sym c.is_inside.ensures.is ∙ c.group-test.false)
