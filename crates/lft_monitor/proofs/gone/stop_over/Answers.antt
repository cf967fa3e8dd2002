use Rattle.std.proofs.Common.{◌≡◌, ◌++◌, ◌∙◌, ℕ, List, length, take, sym, ap, arith}
use Rattle.std.proofs.{Math.Seq.take-length, lemmas.List.append-nil}
use Rattle.lft_ir.specs.declared.steps.row.Row.{Row}
use Rattle.lft_model.specs.Presence.{stop}
use Rattle.lft_monitor.proofs.Stops.{stop_row}
use Rattle.lft_monitor.proofs.gone.stop_over.Goals as goal

pub loop-place-init : goal.loop-place-init
loop-place-init c = λ plan t is. is ∙ ap (λ (x : List Row). stop plan x) (sym (append-nil t))

pub stop_behind-stop-requires : goal.stop_behind-stop-requires
stop_behind-stop-requires c = (c.requires.1 c.loop-place.place c.row_at.result c.row_at.ensures).recorded

pub loop-place-preserved : goal.loop-place-preserved
loop-place-preserved c = λ plan t is. c.stop_behind-stop.ensures plan (t ++ take c.loop-place.place c.args.rows.now) (c.loop-place.invariant plan t is) ∙ stop_row plan t c.args.rows.now c.loop-place.place c.row_at.result c.row_at.ensures

pub returns : goal.returns
returns c = λ plan t is.
    let e : c.loop-place.place ≡ length c.args.rows.now = omega arith in
    c.loop-place.invariant plan t is ∙ ap (λ (n : ℕ). stop plan (t ++ take n c.args.rows.now)) e ∙ ap (λ (x : List Row). stop plan (t ++ x)) (take-length c.args.rows.now)
