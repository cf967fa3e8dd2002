use Rattle.std.proofs.Common.{◌≡◌, Some, Any, slice_get, take}
use Rattle.lft_tree.specs.Tree.{RefTree}
use Rattle.lft_resolve.specs.inner.References.{ref_trees}
use Rattle.lft_validate.proofs.twice.name_before.Given as goal

abbrev pub invariant-loop-before : goal.invariant-loop-before
invariant-loop-before l = (x : RefTree) → slice_get (ref_trees l.names) l.place ≡ Some x → Any (λ y. y ≡ x) (ref_trees (take l.before l.names)) → ⊥
