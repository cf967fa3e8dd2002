use Rattle.std.proofs.Common.{◌≡◌, ℕ, ◌≤◌, List, length, take, sym, ap, ◌∙◌, arith, Some, None, slice_get}
use Rattle.lft_ir.specs.declared.parts.Value.{Value}
use Rattle.lft_model.specs.Presence.{value_scheduled}
use Rattle.lft_pair.specs.inner.Answering.{scheduling}
use Rattle.lft_pair.proofs.Answering.{scheduled_for, scheduled_none, scheduled_put, count_put, few}
use Rattle.lft_pair.proofs.answers.scheduled_by.Goals.{in-Some+in_ok-_before+in_ok-_count, in_default}
use Rattle.lft_pair.proofs.answers.scheduled_by.Goals as goal

pub overflow_add-count : goal.overflow_add-count
overflow_add-count c =
    let steps = c.args.steps.now in
    let i = c.loop-place.place in
    let count : c.count_of-count.result ≡ length (scheduled_for (take i steps) c.in-Some.event.0) = c.count_of-count.ensures ∙ c.loop-place.invariant.count c.in-Some.event.0 in
    let most : length (scheduled_for (take i steps) c.in-Some.event.0) ≤ i = few (value_scheduled c.in-Some.event.0) steps i in
    omega arith

pub loop-place-preserved : goal.loop-place-preserved
loop-place-preserved c =
    let steps = c.args.steps.now in
    let i = c.loop-place.place in
    let s = c.item_at.result in
    elim c.match-scheduling.branch [
      | in-Some+in_ok-_before+in_ok-_count w ↦
          let event = w.in-Some.event in
          let e : scheduling s ≡ Some event = sym c.scheduling.ensures ∙ w.in-Some.is in
          let count : w.count_of-count.result ≡ length (scheduled_for (take i steps) event.0) = w.count_of-count.ensures ∙ c.loop-place.invariant.count event.0 in
          rw (w.counts-is, w.scheduled-is) (record {
            count = λ a. count_put steps i s c.item_at.ensures event.0 w.count_of-count.result event.1 e count a _ _ (w.in_ok-_count.ensures.updates.0 a) (c.loop-place.invariant.count a);
            each = λ a k. scheduled_put steps i s c.item_at.ensures event.0 w.count_of-count.result event.1 e count a k _ _ (w.in_ok-_before.ensures.updates.0 (a, k)) (c.loop-place.invariant.each a k);
          })
      | in_default w ↦
          let none : scheduling s ≡ None = sym c.scheduling.ensures ∙ w.in_default.is in
          rw (w.counts-is, w.scheduled-is) (record {
            count = λ a. c.loop-place.invariant.count a ∙ ap length (sym (scheduled_none steps i s c.item_at.ensures a none));
            each = λ a k. c.loop-place.invariant.each a k ∙ ap (λ (l : List (ℕ × Value)). slice_get l k) (sym (scheduled_none steps i s c.item_at.ensures a none));
          })
    ]
