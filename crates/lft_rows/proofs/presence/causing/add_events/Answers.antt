use Rattle.std.proofs.Common.{◌≡◌, ◌+◌, List, length, Some, slice_get, sym, ap, ◌∙◌, subst, arith}
use Rattle.lft_ir.specs.{Parts.Parts, declared.steps.externals.Event.Event}
use Rattle.lft_rows.specs.{declared.presence.causes.EventCause.EventCause, inner.Presence.Causes.{HasJust, event_cause}}
use Rattle.lft_rows.proofs.PresenceLemmas.Made.{IsCauseTo, events_begin, event_more, events_end}
use Rattle.lft_rows.proofs.presence.causing.add_events.Goals as goal

pub loop-place-init : goal.loop-place-init
loop-place-init c = events_begin c.args.plan.now.program c.args.rows.now c.args.plan.now.externals.events c.args.causes.now.items c.requires.rows

pub loop-place-preserved : goal.loop-place-preserved
loop-place-preserved c =
    let plan = c.args.plan.now in
    let events : c.events-events.result.now ≡ plan.externals.events = c.events-events.ensures.value ∙ ap (λ z. z.events) c.externals.ensures.value in
    let made = event_more plan.program c.args.rows.now plan.externals.events c.loop-place.place c.item_at.result c.of_event.result c.loop-place.causes.items (subst (λ (xs : List Event). slice_get xs c.loop-place.place ≡ Some c.item_at.result) events c.item_at.ensures) (c.of_event.ensures ∙ ap (λ (p : Parts). event_cause p (length c.args.rows.now + c.loop-place.place) c.item_at.result) c.program-program.ensures.value) c.loop-place.invariant in
    subst (λ (xs : List EventCause). HasJust (IsCauseTo plan.program c.args.rows.now plan.externals.events (c.loop-place.place + 1)) xs) (sym c.in_ok-push.ensures.items) made

pub returns : goal.returns
returns c =
    let plan = c.args.plan.now in
    let events : length c.events-events.result.now ≡ length plan.externals.events = ap length (c.events-events.ensures.value ∙ ap (λ z. z.events) c.externals.ensures.value) in
    events_end plan c.args.rows.now c.loop-place.place c.loop-place.causes.items (omega arith) c.loop-place.invariant
