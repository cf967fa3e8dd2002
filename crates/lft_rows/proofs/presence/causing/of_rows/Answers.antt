use Rattle.std.proofs.Common.{◌+◌, List, sym, ap, ◌∙◌, subst, arith}
use Rattle.lft_rows.specs.{declared.presence.causes.EventCause.EventCause, inner.Presence.Causes.HasJust}
use Rattle.lft_rows.proofs.PresenceLemmas.Made.{IsRowCauseTo, row_is_none, row_is_one, rows_end}
use Rattle.lft_rows.proofs.presence.causing.of_rows.Goals.{in-Some+in_ok-push, in_default}
use Rattle.lft_rows.proofs.presence.causing.of_rows.Goals as goal

pub loop-place-preserved : goal.loop-place-preserved
loop-place-preserved c =
    let program = c.args.program.now in
    let t = c.args.rows.now in
    let i = c.loop-place.place in
    elim c.match-of_row.branch [
      | in-Some+in_ok-push w ↦ subst (λ (xs : List EventCause). HasJust (IsRowCauseTo program t (i + 1)) xs) (sym (ap (λ v. v.items) w.causes-is ∙ w.in_ok-push.ensures.items)) (row_is_one program t i c.row_at.result c.row_at.ensures c.loop-place.causes.items w.in-Some.cause (sym w.in-Some.is ∙ c.of_row.ensures) c.loop-place.invariant)
      | in_default w ↦ subst (λ (xs : List EventCause). HasJust (IsRowCauseTo program t (i + 1)) xs) (sym (ap (λ v. v.items) w.causes-is)) (row_is_none program t i c.row_at.result c.row_at.ensures c.loop-place.causes.items (sym w.in_default.is ∙ c.of_row.ensures) c.loop-place.invariant)
    ]

pub returns : goal.returns
returns c = rows_end c.args.program.now c.args.rows.now c.loop-place.place c.loop-place.causes.items (omega arith) c.loop-place.invariant
