use Rattle.std.proofs.Common.{option_to_list, take, refl, sym}
use Rattle.lft_tree.specs.View.{action_view}
use Rattle.lft_resolve.specs.inner.{Lacking.LacksPlace, References.action_trees, Sheets.IsActionSheet, Places.place_in}
use Rattle.lft_resolve.proofs.{Files.AllZip-last, Lacking.none_at, Twice.map_last}
use Rattle.lft_resolve.proofs.by_number.declaring.action_sheets.Goals as goal

pub clock_or_zero-min_delay-requires : goal.clock_or_zero-min_delay-requires
clock_or_zero-min_delay-requires c = none_at (λ a. action_view a.now) (λ a. option_to_list a.min_delay) (LacksPlace (place_in c.args.parameters.now)) c.args.actions.now c.loop-action.action-index c.action-item.result c.loop-action-test.true (sym c.action-item.is) c.requires

pub loop-action-preserved : goal.loop-action-preserved
loop-action-preserved c r is =
    rw (c.in_ok-push.ensures.items, map_last (λ a. action_view a.now) c.args.actions.now c.loop-action.action-index c.action-item.result c.loop-action-test.true (sym c.action-item.is))
    (AllZip-last (IsActionSheet r) (action_trees (take c.loop-action.action-index c.args.actions.now)) c.loop-action.sheets.items (action_view c.action-item.result.now) _ (c.loop-action.invariant r is) (record { is_physical = refl; min_delay = c.clock_or_zero-min_delay.ensures r is }))
