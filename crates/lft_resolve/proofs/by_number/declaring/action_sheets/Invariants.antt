use Rattle.std.proofs.Common.{map, take}
use Rattle.std.specs.List.{AllZip}
use Rattle.lft_tree.specs.Tree.{ReactorTree}
use Rattle.lft_resolve.specs.inner.{Places.IsIndexOf, References.action_trees, Sheets.IsActionSheet}
use Rattle.lft_resolve.proofs.by_number.declaring.action_sheets.Given as goal

abbrev pub invariant-loop-action : goal.invariant-loop-action
invariant-loop-action l = (r : ReactorTree) → IsIndexOf l.parameters (map (λ p. p.name) r.parameters) → AllZip (IsActionSheet r) (action_trees (take l.action-index l.actions)) l.sheets.items
