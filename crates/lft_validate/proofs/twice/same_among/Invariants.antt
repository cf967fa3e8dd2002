use Rattle.std.proofs.Common.{◌≡◌, Any, take}
use Rattle.lft_tree.specs.View.{ref_view}
use Rattle.lft_resolve.specs.inner.References.{ref_trees}
use Rattle.lft_validate.proofs.twice.same_among.Given as goal

abbrev pub invariant-loop-other : goal.invariant-loop-other
invariant-loop-other l = Any (λ y. y ≡ ref_view l.name) (ref_trees (take l.other-index l.names)) → ⊥
