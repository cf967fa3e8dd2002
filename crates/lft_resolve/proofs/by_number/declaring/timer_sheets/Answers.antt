use Rattle.std.proofs.Common.{take, sym}
use Rattle.lft_tree.specs.View.{timer_view}
use Rattle.lft_resolve.specs.{Kinds.timer_times, inner.{Lacking.LacksPlace, References.timer_trees, Sheets.IsTimerSheet, Places.place_in}}
use Rattle.lft_resolve.proofs.{Files.AllZip-last, Lacking.none_at, Somes.{Any-left, Any-right}, Twice.map_last}
use Rattle.lft_resolve.proofs.by_number.declaring.timer_sheets.Goals as goal

pub clock_or_zero-offset-requires : goal.clock_or_zero-offset-requires
clock_or_zero-offset-requires c a = none_at (λ t. timer_view t.now) timer_times (LacksPlace (place_in c.args.parameters.now)) c.args.timers.now c.loop-timer.timer-index c.timer-item.result c.loop-timer-test.true (sym c.timer-item.is) c.requires (Any-left _ _ _ a)

pub clock_or_zero-period-requires : goal.clock_or_zero-period-requires
clock_or_zero-period-requires c a = none_at (λ t. timer_view t.now) timer_times (LacksPlace (place_in c.args.parameters.now)) c.args.timers.now c.loop-timer.timer-index c.timer-item.result c.loop-timer-test.true (sym c.timer-item.is) c.requires (Any-right _ _ _ a)

pub loop-timer-preserved : goal.loop-timer-preserved
loop-timer-preserved c r is =
    rw (c.in_ok-push.ensures.items, map_last (λ t. timer_view t.now) c.args.timers.now c.loop-timer.timer-index c.timer-item.result c.loop-timer-test.true (sym c.timer-item.is))
    (AllZip-last (IsTimerSheet r) (timer_trees (take c.loop-timer.timer-index c.args.timers.now)) c.loop-timer.sheets.items (timer_view c.timer-item.result.now) _ (c.loop-timer.invariant r is) (record { offset = c.clock_or_zero-offset.ensures r is; period = c.clock_or_zero-period.ensures r is }))
