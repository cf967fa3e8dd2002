use Rattle.std.proofs.Common.{◌++◌, ◌∷◌, [], List, take, refl, ap, ◌∙◌, append_assoc}
use Rattle.lft_ir.specs.declared.parts.Value.{Value}
use Rattle.lft_queue.{specs.inner.Coming.{Coming.{to_come, scheduled_by}, Lanes.held}, proofs.ComingLemmas.Scheduled.held_more}
use Rattle.lft_queue.proofs.coming.scheduling.schedule_all.Goals as goal

pub loop-place-preserved : goal.loop-place-preserved
loop-place-preserved c =
    let plan = c.args.plan.now in
    let rows = c.args.rows.now in
    record {
      next = c.if-not-schedule.ensures.next ∙ c.loop-place.invariant.next;
      no_later = λ h clear. c.loop-place.invariant.no_later h (c.if-not-schedule.ensures.no_later h clear);
      put = λ events h n up clear. c.if-not-schedule.ensures.put refl events h n up clear ∙ ap (λ (vs : List Value). vs ++ held (scheduled_by plan (c.row_at.result ∷ []) n) h) (c.loop-place.invariant.put events h n up (c.if-not-schedule.ensures.no_later h clear)) ∙ append_assoc (to_come events c.args.coming.now h n) (held (scheduled_by plan (take c.loop-place.place rows) n) h) (held (scheduled_by plan (c.row_at.result ∷ []) n) h) ∙ ap (λ (vs : List Value). to_come events c.args.coming.now h n ++ vs) (held_more plan rows c.loop-place.place c.row_at.result n h c.row_at.ensures);
    }
