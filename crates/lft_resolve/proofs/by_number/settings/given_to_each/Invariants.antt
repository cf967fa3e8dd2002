use Rattle.std.proofs.Common.{List, map, take}
use Rattle.std.specs.List.{AllZip}
use Rattle.lft_tree.specs.Tree.{ReactorTree}
use Rattle.lft_resolve.specs.inner.{Places.IsIndexOf, References.instance_trees, Sheets.AreValuesGiven, Tables.IsFile}
use Rattle.lft_resolve.proofs.by_number.settings.given_to_each.Given as goal

abbrev pub invariant-loop-instance : goal.invariant-loop-instance
invariant-loop-instance l = (rs : List ReactorTree) (r : ReactorTree) → IsFile rs l.file → IsIndexOf l.parameters (map (λ p. p.name) r.parameters) → AllZip (AreValuesGiven rs r) (instance_trees (take l.instance-index l.instances)) (map (λ g. g.items) l.given.items)
