use Rattle.std.proofs.Common.{Ok, refl, sym, ◌∙◌, arith}
use Rattle.std.proofs.lemmas.Result.{err_from_is_err_and}
use Rattle.lft_whole.specs.{Parts.{Language.{ignored, sign, symbol, ◌>>◌}, Parts.union}, inner.Parts.Parsing.source}
use Rattle.lft_whole.proofs.PartsLemmas.Loop.{bind_fails, loop_opens, loop_turns, loop_fails, loop_done}
use Rattle.lft_whole.specs.Parts.Parts as Parts
use Rattle.lft_whole.proofs.parts.types.past_union.Goals as goal

pub types-init : goal.types-init
unfolding union
types-init c = record { within = (omega arith, c.requires); read = loop_opens (λ _. (sign 124)) (λ _. ignored (symbol 124 >> Parts.member_type)) (source c.args.input.now) tt c.args.at (Parts.union (source c.args.input.now) c.args.at) refl }

pub types-preserved : goal.types-preserved
types-preserved c =
    let further = c.in_ok-next.ensures.ok in
    let within = c.types.invariant.within in
    record { within = (omega (arith, further.0, within.0), further.1); read = loop_turns c.types.invariant.read (sym c.is_symbol.ensures.is ∙ c.types-test.true) (rw (sym c.is_symbol.ensures.is ∙ c.types-test.true) (rw c.in_ok-next.ensures.gives refl)) (omega (arith, further.0)) further.1 }

pub returns-in_err-next-clause-gives : goal.returns-in_err-next-clause-gives
returns-in_err-next-clause-gives c =
    let p = err_from_is_err_and c.from_residual.result c.from_residual.ensures.1 in
    rw (p.1, p.2) (loop_fails c.in_err-next.field-0.0 c.types.invariant.read (sym c.is_symbol.ensures.is ∙ c.types-test.true) (rw (sym c.is_symbol.ensures.is ∙ c.types-test.true) (bind_fails c.in_err-next.field-0.0 _ (λ a. Ok (tt, a.1)) c.in_err-next.ensures.gives)))

pub returns-clause-gives : goal.returns-clause-gives
returns-clause-gives c = loop_done c.types.invariant.read (sym c.is_symbol.ensures.is ∙ c.types-test.false)
