use Rattle.std.proofs.Common.{map, take}
use Rattle.std.specs.List.{AllZip}
use Rattle.lft_tree.specs.{Tree.ReactorTree, View.assignment_view}
use Rattle.lft_resolve.specs.inner.{Places.IsIndexOf, Sheets.IsGiven}
use Rattle.lft_resolve.proofs.by_number.settings.given_all.Given as goal

abbrev pub invariant-loop-assignment : goal.invariant-loop-assignment
invariant-loop-assignment l = (r : ReactorTree) (i : ReactorTree) → IsIndexOf l.outer (map (λ p. p.name) r.parameters) → IsIndexOf l.inner (map (λ p. p.name) i.parameters) → AllZip (IsGiven r i) (map assignment_view (take l.assignment-index l.assignments)) l.given.items
