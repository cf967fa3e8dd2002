use Rattle.std.proofs.Common.{map, take}
use Rattle.std.specs.List.{AllZip}
use Rattle.lft_tree.specs.Tree.{ReactorTree}
use Rattle.lft_resolve.specs.inner.{Places.IsIndexOf, References.timer_trees, Sheets.IsTimerSheet}
use Rattle.lft_resolve.proofs.by_number.declaring.timer_sheets.Given as goal

abbrev pub invariant-loop-timer : goal.invariant-loop-timer
invariant-loop-timer l = (r : ReactorTree) → IsIndexOf l.parameters (map (λ p. p.name) r.parameters) → AllZip (IsTimerSheet r) (timer_trees (take l.timer-index l.timers)) l.sheets.items
