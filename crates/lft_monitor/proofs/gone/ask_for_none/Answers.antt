use Rattle.std.proofs.Common.{◌≡◌, ◌++◌, ◌∙◌, ℕ, List, length, take, refl, sym, ap, arith}
use Rattle.std.proofs.{Math.Seq.take-length, lemmas.Bool.false≢true}
use Rattle.lft_ir.specs.declared.steps.row.Row.{Row}
use Rattle.lft_model.specs.Presence.{stop}
use Rattle.lft_monitor.proofs.Stops.{stop_keeps, stop_row}
use Rattle.lft_monitor.proofs.gone.ask_for_none.Goals as goal

pub loop-place-init : goal.loop-place-init
loop-place-init c = λ plan t. refl

pub loop-place-preserved : goal.loop-place-preserved
loop-place-preserved c = λ plan t.
    let rows = c.args.rows.now in
    let place = c.loop-place.place in
    let first = stop plan (t ++ take c.args.from rows) in
    let keeps = stop_keeps plan (t ++ take place rows) c.row_at.result first (sym (c.loop-place.invariant plan t)) (λ asks. absurd (false≢true (c.if-is_stop.ensures.1 asks))) in
    sym (keeps ∙ stop_row plan t rows place c.row_at.result c.row_at.ensures)

pub returns : goal.returns
returns c = λ yes plan t.
    let rows = c.args.rows.now in
    let e : c.loop-place.place ≡ length rows = omega arith in
    ap (λ (x : List Row). stop plan (t ++ x)) (sym (take-length rows)) ∙ ap (λ (n : ℕ). stop plan (t ++ take n rows)) (sym e) ∙ c.loop-place.invariant plan t
