use Rattle.std.proofs.Common.{◌≡◌, ◌++◌, ℕ, List, length, take, sym, subst, arith}
use Rattle.std.proofs.{Math.Seq.take-length, lemmas.List.append-nil}
use Rattle.lft_ir.specs.declared.steps.row.Row.{Row}
use Rattle.lft_log.{specs.inner.Told.IsLatestTag, proofs.Asking.next_row}
use Rattle.lft_log.proofs.telling.latest_of.Goals as goal

pub loop-place-init : goal.loop-place-init
loop-place-init c = λ t is. subst (λ (x : List Row). IsLatestTag x c.args.before) (sym (append-nil t)) is

pub loop-place-preserved : goal.loop-place-preserved
loop-place-preserved c = λ t is. subst (λ (x : List Row). IsLatestTag x c.latest_with-latest.result) (next_row t c.args.rows.now c.loop-place.place c.row_at.result c.row_at.ensures) (c.latest_with-latest.ensures (t ++ take c.loop-place.place c.args.rows.now) (c.loop-place.invariant t is))

pub returns : goal.returns
returns c = λ t is.
    let rows = c.args.rows.now in
    let e : c.loop-place.place ≡ length rows = omega arith in
    subst (λ (x : List Row). IsLatestTag (t ++ x) c.loop-place.latest) (take-length rows) (subst (λ (n : ℕ). IsLatestTag (t ++ take n rows) c.loop-place.latest) e (c.loop-place.invariant t is))
