use Rattle.std.proofs.Common.{◌≡◌, ℕ, Ok, ap, ◌+◌, refl, sym, ◌∙◌, arith}
use Rattle.lft_whole.specs.{Parts.{Language.{ignored, this, ◌>>◌}, Parts.path}, inner.Parts.Parsing.source}
use Rattle.lft_whole.proofs.PartsLemmas.Loop.{loop_opens, loop_turns, loop_done}
use Rattle.lft_whole.specs.Parts.Parts as Parts
use Rattle.lft_whole.proofs.parts.values.path_end.Goals as goal

pub path-init : goal.path-init
unfolding path
path-init c = record { within = (omega arith, c.requires); read = loop_opens (λ _. Parts.on_path) (λ _. ignored (this >> this)) (source c.args.input.now) tt c.args.at (Parts.path (source c.args.input.now) c.args.at) refl }

pub path-preserved : goal.path-preserved
path-preserved c =
    let inside = c.is_path.ensures.inside c.path-test.true in
    let within = c.path.invariant.within in
    let further : c.path.next + 1 + 1 ≡ c.path.next + 2 = omega arith in
    record { within = (omega (arith, within.0), omega (arith, inside)); read = loop_turns c.path.invariant.read (sym c.is_path.ensures.is ∙ c.path-test.true) (ap (λ (k : ℕ). Ok (tt, k)) further) (omega arith) (omega (arith, inside)) }

pub returns-clause-gives : goal.returns-clause-gives
returns-clause-gives c = loop_done c.path.invariant.read (sym c.is_path.ensures.is ∙ c.path-test.false)
