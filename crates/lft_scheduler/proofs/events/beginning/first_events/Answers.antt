use Rattle.std.proofs.Common.{◌≡◌, ◌+◌, ◌↔◌, List, Some, None, IsSome, length, sym, ap, ◌∙◌, subst, arith, rules}
use Rattle.lft_tag.specs.{declared.Tag.Tag, Tags.{Before, UpTo}}
use Rattle.lft_ir.specs.{declared.{parts.{Value.Value, Name.{Name, TheVariants.Action}}, steps.externals.Event.Event}, Steps.Inputs.{ExternalInputs, InOrder}}
use Rattle.lft_queue.specs.Pending.{Pending, value_of, Becomes}
use Rattle.lft_scheduler.proofs.Given.{IsGiven, given_late, given_put, none_given, none_begun, all_given, up_to}
use Rattle.lft_scheduler.proofs.events.beginning.first_events.Goals.{then-not-is_before+in-Err+in-Collision-1, then-not-is_before+in-Ok-1, else-not-is_before}
use Rattle.lft_scheduler.proofs.events.beginning.first_events.Goals as goal

pub loop-at-init : goal.loop-at-init
loop-at-init c = λ h n v u. none_begun c.events-events.result.now c.new-queue.result c.new-queue.ensures h n v

pub loop-at-preserved : goal.loop-at-preserved
loop-at-preserved c =
    let events = c.events-events.result.now in
    let event = c.item_at-event.result in
    let stop = c.stop-stop.result in
    let i = c.loop-at.at in
    elim c.if-not-is_before.branch [
      | then-not-is_before+in-Err+in-Collision-1 w ↦
          let not : ¬ Before stop event.tag = search rules in
          let s : IsSome (value_of event.tag (Action event.action) c.loop-at.queue) = search rules in
          absurd (none_given events i event c.item_at-event.ensures stop (subst (λ (es : List Event). InOrder es) (sym c.events-events.ensures.value) c.events-events.ensures.order) c.loop-at.queue (up_to event.tag stop not) c.loop-at.invariant s)
      | then-not-is_before+in-Ok-1 w ↦
          let becomes : Becomes c.loop-at.queue w.put.new.self event.tag (Action event.action) (Some event.value) = search rules in
          let none : value_of event.tag (Action event.action) c.loop-at.queue ≡ None = search rules in
          subst (λ (q : List Pending). (h : Tag) (n : Name) (v : Value) → UpTo h stop → (value_of h n q ≡ Some v) ↔ IsGiven events (i + 1) h n v) (sym w.queue-is) (given_put events i event c.item_at-event.ensures stop c.loop-at.queue w.put.new.self becomes none c.loop-at.invariant)
      | else-not-is_before w ↦
          let late : Before stop event.tag = search rules in
          subst (λ (q : List Pending). (h : Tag) (n : Name) (v : Value) → UpTo h stop → (value_of h n q ≡ Some v) ↔ IsGiven events (i + 1) h n v) (sym w.queue-is) (given_late events i event c.item_at-event.ensures stop c.loop-at.queue late c.loop-at.invariant)
    ]

pub returns : goal.returns
returns c =
    let plan = c.args.plan.now in
    let same : c.events-events.result.now ≡ plan.externals.events = c.events-events.ensures.value ∙ ap (λ (x : ExternalInputs). x.events) c.externals-externals.ensures.value in
    let stop : c.stop-stop.result ≡ plan.externals.stop = c.stop-stop.ensures ∙ ap (λ (x : ExternalInputs). x.stop) c.externals-externals.ensures.value in
    all_given plan c.keeps.ensures.sound c.loop-at.at c.loop-at.queue (let z = c.loop-at-test.false in let e = ap length same in omega arith) (subst (λ (es : List Event). (h : Tag) (n : Name) (v : Value) → UpTo h plan.externals.stop → (value_of h n c.loop-at.queue ≡ Some v) ↔ IsGiven es c.loop-at.at h n v) same (subst (λ (g : Tag). (h : Tag) (n : Name) (v : Value) → UpTo h g → (value_of h n c.loop-at.queue ≡ Some v) ↔ IsGiven c.events-events.result.now c.loop-at.at h n v) stop c.loop-at.invariant))
