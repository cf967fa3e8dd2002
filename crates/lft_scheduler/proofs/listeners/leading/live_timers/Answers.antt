use Rattle.std.proofs.Common.{◌≡◌, true, false, Some, length, slice_get, ap, sym, refl, ◌∙◌, arith}
use Rattle.std.proofs.lemmas.Option.{slice_get_read}
use Rattle.lft_scheduler.proofs.{Leaders.{live_more, live_same, live_all}, listeners.leading.live_timers.Goals.{then-index+in_ok-push, else-index}}
use Rattle.lft_scheduler.proofs.listeners.leading.live_timers.Goals as goal

pub timers-preserved : goal.timers-preserved
timers-preserved c =
    let marked = c.in_ok-marked.marked.items in
    let n = c.timers.number in
    let z = c.timers-test.true in
    let e = c.timers-number-end.ensures.count in
    let l = c.in_ok-marked.ensures.as_long in
    let there : slice_get marked n ≡ Some c.index.result.now = slice_get_read marked (length marked) n c.index.result.now refl (omega arith) c.index.ensures in
    elim c.if-index.branch [
      | then-index+in_ok-push w ↦ rw (w.live-is, w.in_ok-push.ensures.items) (live_more marked n c.timers.live.items c.timers.invariant (there ∙ ap Some w.if-index.true))
      | else-index w ↦ rw w.live-is (live_same marked n c.timers.live.items c.timers.invariant (λ q. let y : Some true ≡ Some false = sym q ∙ there ∙ ap Some w.if-index.false in cc))
    ]

pub returns : goal.returns
returns c = live_all c.args.program.now c.in_ok-marked.marked.items c.timers.number c.timers.live.items (let z = c.timers-test.false in let a = c.timers.auto.number-end in let e = c.timers-number-end.ensures.count in let l = c.in_ok-marked.ensures.as_long in omega arith) c.in_ok-marked.ensures c.timers.invariant
