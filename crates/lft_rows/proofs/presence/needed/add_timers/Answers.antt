use Rattle.std.proofs.Common.{List, Option, Some, ◌+◌, ◌∙◌, refl, sym, ap, subst}
use Rattle.lft_ir.specs.declared.parts.Trigger.{Trigger}
use Rattle.lft_rows.specs.{declared.presence.needed.Beat.Beat, inner.Presence.Needed.AreAdded}
use Rattle.lft_rows.proofs.PresenceLemmas.Needing.{IsLast, added_stays, added_more, last_more}
use Rattle.lft_rows.proofs.presence.needed.add_timers.Goals.{then-not-is_covered+in_ok-push, else-not-is_covered}
use Rattle.lft_rows.proofs.presence.needed.add_timers.Goals as goal

pub loop-place-preserved : goal.loop-place-preserved
loop-place-preserved c =
    let beats = c.args.beats.now in
    let k = c.loop-place.place in
    let old = c.args.needed.now.items in
    let new = c.loop-place.needed.items in
    let beat = c.item_at-beat.result in
    elim c.if-not-is_covered.branch [
      | then-not-is_covered+in_ok-push w ↦ record {
        added = subst (λ (ys : List Trigger). AreAdded beats (k + 1) old ys) (sym (ap (λ v. v.items) w.needed-is ∙ w.in_ok-push.ensures.items)) (added_more beats k old new c.loop-place.invariant.added beat c.item_at-beat.ensures);
        last = subst (λ (o : Option Beat). IsLast beats c.if-not-is_covered.needed.items o) (sym w.last-is) (subst (λ (ys : List Trigger). IsLast beats ys (Some beat)) (sym (ap (λ v. v.items) w.needed-is ∙ w.in_ok-push.ensures.items)) (last_more beats k old new c.loop-place.invariant.added beat c.item_at-beat.ensures));
      }
      | else-not-is_covered w ↦ record {
        added = subst (λ (ys : List Trigger). AreAdded beats (k + 1) old ys) (sym (ap (λ v. v.items) w.needed-is)) (added_stays beats k old new c.loop-place.invariant.added beat c.item_at-beat.ensures c.loop-place.last c.loop-place.invariant.last (w.if-not-is_covered.ensures.0 refl));
        last = subst (λ (o : Option Beat). IsLast beats c.if-not-is_covered.needed.items o) (sym w.last-is) (subst (λ (ys : List Trigger). IsLast beats ys c.loop-place.last) (sym (ap (λ v. v.items) w.needed-is)) c.loop-place.invariant.last);
      }
    ]
