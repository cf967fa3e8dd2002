use Rattle.std.proofs.Common.{take}
use Rattle.lft_validate.specs.inner.Seen.{has_seen}
use Rattle.lft_resolve.specs.{Causes.IsTwice, inner.{References.ref_trees, Tests.IsTestOf}}
use Rattle.lft_validate.proofs.twice.first_named_twice.Given as goal

abbrev pub invariant-loop-place : goal.invariant-loop-place
invariant-loop-place l = IsTestOf (has_seen l.seen) (ref_trees (take l.place l.names)) × (IsTwice (ref_trees (take l.place l.names)) → ⊥)
