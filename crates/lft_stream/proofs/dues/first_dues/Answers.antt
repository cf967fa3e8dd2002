use Rattle.std.proofs.Common.{◌≡◌, ◌+◌, List, [], ◌∷◌, ◌++◌, sym, ap, ◌∙◌, subst, arith, Some, None, filter_map, take}
use Rattle.std.proofs.lemmas.List.{take_all, append-nil}
use Rattle.lft_lists.proofs.Picked.{kept_more}
use Rattle.lft_ir.specs.declared.parts.Trigger.{Trigger}
use Rattle.lft_stream.specs.{declared.due.Due.Due, inner.Dues.{timed, AreTriggersDue}}
use Rattle.lft_stream.proofs.{Owing.due_push, dues.first_dues.Goals.{in-Some+in_ok-push-in-Some, in-None}}
use Rattle.lft_stream.proofs.dues.first_dues.Goals as goal

pub loop-place-preserved : goal.loop-place-preserved
loop-place-preserved c =
    let plan = c.args.plan.now in
    let xs = c.args.triggers.now in
    let k = c.loop-place.place in
    let old = filter_map timed (take k xs) in
    elim c.match-timed.branch [
      | in-Some+in_ok-push-in-Some w ↦
          let x = w.in-Some.trigger in
          let more : filter_map timed (take (k + 1) xs) ≡ old ++ x ∷ [] = kept_more timed xs k c.item_at.result (Some x) c.item_at.ensures (sym w.in-Some.is ∙ c.timed.ensures) in
          λ r. subst (λ (ys : List Trigger). AreTriggersDue plan [] r ys c.match-timed.dues.items) (sym more) (subst (λ (ds : List Due). AreTriggersDue plan [] r (old ++ x ∷ []) ds) (sym (ap (λ z. z.items) w.dues-is ∙ w.in_ok-push-in-Some.ensures.ok)) (due_push plan [] r old c.loop-place.dues.items x w.first.result (w.first.ensures r) (c.loop-place.invariant r)))
      | in-None w ↦
          let more : filter_map timed (take (k + 1) xs) ≡ old = kept_more timed xs k c.item_at.result None c.item_at.ensures (sym w.in-None.is ∙ c.timed.ensures) ∙ append-nil old in
          λ r. subst (λ (ys : List Trigger). AreTriggersDue plan [] r ys c.match-timed.dues.items) (sym more) (subst (λ (ds : List Due). AreTriggersDue plan [] r old ds) (sym (ap (λ z. z.items) w.dues-is)) (c.loop-place.invariant r))
    ]

pub returns : goal.returns
returns c = λ r. subst (λ (ys : List Trigger). AreTriggersDue c.args.plan.now [] r (filter_map timed ys) c.loop-place.dues.items) (take_all c.loop-place.place c.args.triggers.now (let a = c.loop-place-test.false in omega arith)) (c.loop-place.invariant r)
