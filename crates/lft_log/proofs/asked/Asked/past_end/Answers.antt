use Rattle.std.proofs.Common.{◌≡◌, ◌+◌, ◌++◌, ◌∙◌, ℕ, List, Option, Some, length, take, drop, slice_get, refl, ap, subst, arith}
use Rattle.std.proofs.Math.Seq.{take-length}
use Rattle.lft_tag.specs.declared.Tag.{Tag}
use Rattle.lft_ir.{proofs.Ranges.slice_get-drop, specs.declared.steps.row.Row.Row}
use Rattle.lft_log.{specs.{Told.{AreAll, KeepTo}, inner.Told.IsAskedOf}, proofs.Asking.{asked_within, next_row}}
use Rattle.lft_log.proofs.asked.Asked.past_end.Goals as goal

pub returns-then-is_past-clause-past : goal.returns-then-is_past-clause-past
returns-then-is_past-clause-past c = λ t is.
    let rows = c.args.rows.now in
    let place = c.loop-place.place in
    let first = t ++ take place rows in
    let asked = c.loop-place.invariant.asked t is in
    let at : slice_get (drop place rows) 0 ≡ Some c.row_at.result = slice_get-drop rows place 0 ∙ ap (λ (k : ℕ). slice_get rows k) (let zero : place + 0 ≡ place = omega arith in zero) ∙ c.row_at.ensures in
    subst (λ (o : Option Tag). KeepTo o first × AreAll o first (drop place rows)) c.loop-place.invariant.until (asked_within first c.loop-place.self asked, (c.row_at.result, at, c.if-is_past.ensures.past refl first asked))

pub loop-place-preserved : goal.loop-place-preserved
loop-place-preserved c = record {
  until = c.is_past.ensures.until ∙ c.loop-place.invariant.until;
  asked = λ t is. subst (λ (x : List Row). IsAskedOf x c.is_past.new.self) (next_row t c.args.rows.now c.loop-place.place c.row_at.result c.row_at.ensures) (c.if-is_past.ensures.asked refl (t ++ take c.loop-place.place c.args.rows.now) (c.loop-place.invariant.asked t is));
}

pub returns-clause-asked : goal.returns-clause-asked
returns-clause-asked c = λ t is.
    let rows = c.args.rows.now in
    let e : c.loop-place.place ≡ length rows = omega arith in
    subst (λ (x : List Row). IsAskedOf (t ++ x) c.loop-place.self) (take-length rows) (subst (λ (n : ℕ). IsAskedOf (t ++ take n rows) c.loop-place.self) e (c.loop-place.invariant.asked t is))
