use Rattle.std.proofs.Common.{◌+◌, List, subst, sym, arith}
use Rattle.std.specs.declared.cmp.Reverse.{Reverse}
use Rattle.lft_tag.specs.Tags.{UpTo}
use Rattle.lft_lists.proofs.Places.{contains_at}
use Rattle.lft_scheduler.specs.declared.firings.Firing.{Firing}
use Rattle.lft_scheduler.proofs.{ToldTurns.live_within, NextFiring.starts_at, FirstFirings.{AreFirstOf, none_put, one_put, all_put}}
use Rattle.lft_scheduler.proofs.firings.Firings.new.Goals as goal

pub loop-at-init : goal.loop-at-init
loop-at-init c = subst (λ (fs : List (Reverse Firing)). AreFirstOf c.args.program.now (λ h. UpTo (record { time = 0; micro = 0 }) h) c.live_timers-timers.result.now 0 fs) (sym c.new-firings.ensures.items) (none_put c.args.program.now (λ h. UpTo (record { time = 0; micro = 0 }) h) c.live_timers-timers.result.now)

pub timer-requires : goal.timer-requires
timer-requires c =
    let n = c.item_at-timer.result in
    live_within c.args.program.now n ((c.live_timers-timers.ensures c.args.program.now c.requires n).0 (contains_at c.live_timers-timers.result.now c.loop-at.at n c.item_at-timer.ensures))

pub loop-at-preserved : goal.loop-at-preserved
loop-at-preserved c =
    let program = c.args.program.now in
    let timers = c.live_timers-timers.result.now in
    let n = c.item_at-timer.result in
    let timer = c.timer.result.now in
    let f : Reverse Firing = record { 0 = record { time = timer.offset; timer = n } } in
    let live = (c.live_timers-timers.ensures program c.requires n).0 (contains_at timers c.loop-at.at n c.item_at-timer.ensures) in
    subst (λ (fs : List (Reverse Firing)). AreFirstOf program (λ h. UpTo (record { time = 0; micro = 0 }) h) timers (c.loop-at.at + 1) fs) (sym c.in_ok-push.ensures.items) (one_put program (λ h. UpTo (record { time = 0; micro = 0 }) h) timers c.loop-at.at c.loop-at.firings.items f c.loop-at.invariant c.item_at-timer.ensures live (timer, c.timer.ensures.value, starts_at timer))

pub returns : goal.returns
returns c = all_put c.args.program.now (λ h. UpTo (record { time = 0; micro = 0 }) h) c.live_timers-timers.result.now c.loop-at.at c.loop-at.firings.items c.from.result.data.items c.loop-at.invariant (let z = c.loop-at-test.false in omega arith) (c.live_timers-timers.ensures c.args.program.now c.requires) c.from.ensures.1
