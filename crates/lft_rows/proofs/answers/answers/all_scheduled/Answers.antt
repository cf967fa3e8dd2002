use Rattle.std.proofs.Common.{sym, ap, ◌∙◌, [], ◌∷◌, ◌++◌, Some, None, append-nil, filter_map, take}
use Rattle.lft_model.specs.Presence.{value_scheduled}
use Rattle.lft_lists.proofs.Picked.{kept_more}
use Rattle.lft_rows.proofs.answers.answers.all_scheduled.Goals.{in-Some+in_ok-push, in_default}
use Rattle.lft_rows.proofs.answers.answers.all_scheduled.Goals as goal

pub loop-place-preserved : goal.loop-place-preserved
loop-place-preserved c =
    let h = value_scheduled c.args.action in
    let t = c.args.steps.now in
    let i = c.loop-place.place in
    elim c.match-value_scheduled.branch [
      | in-Some+in_ok-push w ↦ ap (λ v. v.items) w.list-is ∙ w.in_ok-push.ensures.items ∙ ap (λ zs. zs ++ w.in-Some.value ∷ []) c.loop-place.invariant ∙ sym (kept_more h t i c.item_at.result (Some w.in-Some.value) c.item_at.ensures (sym w.in-Some.is ∙ c.value_scheduled.ensures))
      | in_default w ↦ ap (λ v. v.items) w.list-is ∙ c.loop-place.invariant ∙ sym (kept_more h t i c.item_at.result None c.item_at.ensures (sym w.in_default.is ∙ c.value_scheduled.ensures) ∙ append-nil (filter_map h (take i t)))
    ]
