use Rattle.std.proofs.Common.{◌≡◌, ◌≤◌, List, length, take, sym, ap, ◌∙◌, arith, Some, None, slice_get}
use Rattle.lft_pair.specs.{declared.contrasting.contrasts.Scheduling.Scheduling, Runs.{scheduling_of, schedulings}, inner.Answered.action_scheduled}
use Rattle.lft_pair.proofs.{Answering.few, Answered.{scheduling_none, scheduling_put, count_put}}
use Rattle.lft_pair.proofs.contrasting.answers.schedulings_of.Goals.{in-Some+in_ok-_before+in_ok-_count, in_default}
use Rattle.lft_pair.proofs.contrasting.answers.schedulings_of.Goals as goal

pub overflow_add-count : goal.overflow_add-count
overflow_add-count c =
    let steps = c.args.steps.now in
    let i = c.loop-place.place in
    let count : c.count_of-count.result ≡ length (schedulings (take i steps) c.in-Some.found.0) = c.count_of-count.ensures ∙ c.loop-place.invariant.count c.in-Some.found.0 in
    let most : length (schedulings (take i steps) c.in-Some.found.0) ≤ i = few (scheduling_of c.in-Some.found.0) steps i in
    omega arith

pub loop-place-preserved : goal.loop-place-preserved
loop-place-preserved c =
    let steps = c.args.steps.now in
    let i = c.loop-place.place in
    let x = c.item_at.result in
    elim c.match-scheduled.branch [
      | in-Some+in_ok-_before+in_ok-_count w ↦
          let found = w.in-Some.found in
          let e : action_scheduled x ≡ Some found = sym c.scheduled.ensures ∙ w.in-Some.is in
          let count : w.count_of-count.result ≡ length (schedulings (take i steps) found.0) = w.count_of-count.ensures ∙ c.loop-place.invariant.count found.0 in
          rw (w.counts-is, w.items-is) (record {
            count = λ a. count_put steps i x c.item_at.ensures found.0 w.count_of-count.result found.1 e count a _ _ (w.in_ok-_count.ensures.updates.0 a) (c.loop-place.invariant.count a);
            each = λ a k. scheduling_put steps i x c.item_at.ensures found.0 w.count_of-count.result found.1 e count a k _ _ (w.in_ok-_before.ensures.updates.0 (a, k)) (c.loop-place.invariant.each a k);
          })
      | in_default w ↦
          let none : action_scheduled x ≡ None = sym c.scheduled.ensures ∙ w.in_default.is in
          rw (w.counts-is, w.items-is) (record {
            count = λ a. c.loop-place.invariant.count a ∙ ap length (sym (scheduling_none steps i x c.item_at.ensures a none));
            each = λ a k. c.loop-place.invariant.each a k ∙ ap (λ (l : List Scheduling). slice_get l k) (sym (scheduling_none steps i x c.item_at.ensures a none));
          })
    ]
