use Rattle.std.proofs.Common.{false, Ok, refl, sym, ◌∙◌, arith}
use Rattle.std.proofs.lemmas.Result.{err_from_is_err_and}
use Rattle.lft_whole.{specs.{Parts.Parts.record_rest, inner.Parts.Parsing.source}, proofs.PartsLemmas.Loop.{loop_begins, loop_turns, loop_fails, loop_done}}
use Rattle.lft_whole.specs.Parts.Parts as Parts
use Rattle.lft_whole.proofs.parts.types.record_rest.Goals as goal

pub record-init : goal.record-init
unfolding record_rest
record-init c = record { within = (omega arith, c.requires.1); depths = omega (arith, c.requires.0); read = loop_begins (λ r _ _. Parts.is_open r.0) Parts.record_step (source c.args.input.now) (λ a. Ok (tt, a.1)) (1, false) c.args.at (Parts.record_rest (source c.args.input.now) c.args.at) refl }

pub record-preserved : goal.record-preserved
record-preserved c =
    let ok = c.in_ok-open.ensures.ok in
    let further = ok.1 in
    let within = c.record.invariant.within in
    record { within = (omega (arith, further.0, within.0), further.1); depths = ok.0; read = loop_turns c.record.invariant.read (sym c.is_open.ensures.is ∙ c.record-test.true) c.in_ok-open.ensures.gives further.0 further.1 }

pub returns-in_err-open-clause-gives : goal.returns-in_err-open-clause-gives
returns-in_err-open-clause-gives c =
    let p = err_from_is_err_and c.from_residual.result c.from_residual.ensures.1 in
    rw (p.1, p.2) (loop_fails c.in_err-open.field-0.0 c.record.invariant.read (sym c.is_open.ensures.is ∙ c.record-test.true) c.in_err-open.ensures.gives)

pub returns-clause-gives : goal.returns-clause-gives
returns-clause-gives c = loop_done c.record.invariant.read (sym c.is_open.ensures.is ∙ c.record-test.false)
