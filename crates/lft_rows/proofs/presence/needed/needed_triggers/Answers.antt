use Rattle.std.proofs.Common.{List, ◌+◌, ◌++◌, ◌∷◌, [], length, ◌∙◌, sym, ap, subst, arith}
use Rattle.lft_ir.specs.declared.parts.Trigger.{Trigger, TheVariants.Timer}
use Rattle.lft_rows.specs.{declared.presence.needed.Beat.Beat, inner.Presence.Needed.AreAdded}
use Rattle.lft_rows.proofs.PresenceLemmas.Needing.{AreParted, parted_timer, parted_other, needed_of}
use Rattle.lft_rows.proofs.presence.needed.needed_triggers.Goals.{in-Timer+in_ok-push, in_default+in_ok-push-2}
use Rattle.lft_rows.proofs.presence.needed.needed_triggers.Goals as goal

pub loop-place-preserved : goal.loop-place-preserved
loop-place-preserved c =
    let program = c.args.program.now in
    let xs = c.args.triggers.now in
    let k = c.loop-place.place in
    let beats = c.loop-place.beats.items in
    let ys = c.loop-place.needed.items in
    let x = c.item_at-trigger.result in
    elim c.match-trigger.branch [
      | in-Timer+in_ok-push w ↦ subst (λ (bs : List Beat). AreParted program xs (k + 1) bs c.match-trigger.needed.items) (sym (ap (λ v. v.items) w.beats-is ∙ w.in_ok-push.ensures.items)) (subst (λ (zs : List Trigger). AreParted program xs (k + 1) (beats ++ w.beat_of.result ∷ []) zs) (sym (ap (λ v. v.items) w.needed-is)) (parted_timer program xs k beats ys c.loop-place.invariant x c.item_at-trigger.ensures w.beat_of.result (w.in-Timer.is ∙ ap Timer (sym w.beat_of.ensures.number)) w.beat_of.ensures.beat))
      | in_default+in_ok-push-2 w ↦ subst (λ (bs : List Beat). AreParted program xs (k + 1) bs c.match-trigger.needed.items) (sym (ap (λ v. v.items) w.beats-is)) (subst (λ (zs : List Trigger). AreParted program xs (k + 1) beats zs) (sym (ap (λ v. v.items) w.needed-is ∙ w.in_ok-push-2.ensures.items)) (parted_other program xs k beats ys c.loop-place.invariant x c.item_at-trigger.ensures))
    ]

pub returns : goal.returns
returns c =
    let sorted = c.sort_unstable.new.self.items in
    let ys = c.loop-place.needed.items in
    let new = c.add_timers.new.needed.items in
    needed_of c.args.program.now c.args.triggers.now c.loop-place.place c.loop-place.beats.items sorted ys new (let t = c.loop-place-test.false in omega arith) c.loop-place.invariant c.sort_unstable.ensures.permutation (subst (λ (bs : List Beat). AreAdded bs (length bs) ys new) c.as_slice.ensures.value c.in_ok-add_timers.ensures)
