use Rattle.std.proofs.Common.{◌≡◌, not, true, refl, sym, ap, ◌∙◌, arith}
use Rattle.std.proofs.lemmas.Result.{err_from_is_err_and}
use Rattle.lft_whole.specs.{Parts.{Language.{ignored, sign, isnt, symbol}, Parts.rest}, inner.Parts.Parsing.source}
use Rattle.lft_whole.proofs.PartsLemmas.Loop.{loop_begins, loop_turns, loop_fails, loop_done}
use Rattle.lft_whole.specs.Parts.Parts as Parts
use Rattle.lft_whole.proofs.parts.values.past_list.Goals as goal

pub values-init : goal.values-init
unfolding rest
values-init c = record { within = (omega arith, c.requires); read = loop_begins (λ _. isnt (sign 41)) (λ _. ignored Parts.item) (source c.args.input.now) (λ a. symbol 41 (source c.args.input.now) a.1) tt c.args.at (Parts.rest (source c.args.input.now) c.args.at) refl }

pub values-preserved : goal.values-preserved
values-preserved c =
    let further = c.in_ok-next.ensures.ok in
    let within = c.values.invariant.within in
    record { within = (omega (arith, further.0, within.0), further.1); read = loop_turns c.values.invariant.read (ap not (sym c.is_symbol.ensures.is ∙ c.values-test.true)) c.in_ok-next.ensures.gives (omega (arith, further.0)) further.1 }

pub returns-in_err-next-clause-gives : goal.returns-in_err-next-clause-gives
returns-in_err-next-clause-gives c =
    let p = err_from_is_err_and c.from_residual.result c.from_residual.ensures.1 in
    rw (p.1, p.2) (loop_fails c.in_err-next.field-0.0 c.values.invariant.read (ap not (sym c.is_symbol.ensures.is ∙ c.values-test.true)) c.in_err-next.ensures.gives)

pub returns-clause-gives : goal.returns-clause-gives
returns-clause-gives c =
    let closes : sign 41 (source c.args.input.now) c.values.next ≡ true = sym c.is_symbol.ensures.is ∙ c.values-test.false in
    loop_done c.values.invariant.read (ap not (sym c.is_symbol.ensures.is ∙ c.values-test.false)) ∙ rw closes refl
