use Rattle.std.proofs.Common.{◌≡◌, ◌+◌, ◌++◌, ◌∷◌, [], ℕ, Option, Some, slice_get, refl, sym, ap, ◌∙◌, subst, unwrap_or, option_map}
use Rattle.lft_tag.specs.{declared.Tag.Tag, Tags.after}
use Rattle.lft_ir.specs.{Parts.Parts, declared.{parts.{Action.Action as ActionOf, Name.TheVariants.Action}, steps.row.Step.TheVariants.Schedule}}
use Rattle.lft_model.specs.{Presence.min_delay, Recorded.run_row}
use Rattle.lft_scheduler.{specs.inner.Events.{IsEventPut, HasEvents}, proofs.Steps.schedule_fed}
use Rattle.std.proofs.lemmas.Result.{IfOk-weaker}
use Rattle.lft_scheduler.proofs.events.feeding.feed_schedule.Goals as goal

pub returns : goal.returns
returns c = λ t w r is.
    let plan = c.args.plan.now in
    let action = c.action.result.now in
    let there : slice_get plan.program.actions c.args.action ≡ Some action = ap (λ (z : Parts). slice_get z.actions c.args.action) (sym c.program.ensures.value) ∙ c.action.ensures.value in
    let min : action.min_delay ≡ min_delay plan.program c.args.action = ap (λ (o : Option ActionOf). unwrap_or (option_map (λ z. z.min_delay) o) 0) (sym there) in
    let at : c.after.result ≡ after c.args.tag (min_delay plan.program c.args.action + c.args.delay) = c.after.ensures ∙ ap (λ (n : ℕ). after c.args.tag (n + c.args.delay)) min in
    let x = run_row w c.args.tag r (Schedule (Action c.args.action) c.args.value c.args.delay) in
    IfOk-weaker c.put.result (λ found. IsEventPut c.args.last c.args.clash c.after.result (Action c.args.action) c.args.value c.args.queue.now c.put.new.queue found) (λ found. HasEvents plan (t ++ x ∷ []) c.args.tag c.args.last found c.put.new.queue) (λ found put0.
    let put : IsEventPut c.args.last c.args.clash (after c.args.tag (min_delay plan.program c.args.action + c.args.delay)) (Action c.args.action) c.args.value c.args.queue.now c.put.new.queue found = subst (λ (g : Tag). IsEventPut c.args.last c.args.clash g (Action c.args.action) c.args.value c.args.queue.now c.put.new.queue found) at put0 in
    schedule_fed plan t x c.args.action c.args.delay c.args.value refl c.args.last c.args.clash found c.args.queue.now c.put.new.queue is put) c.put.ensures
