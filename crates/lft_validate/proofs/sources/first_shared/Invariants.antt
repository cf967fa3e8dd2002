use Rattle.std.proofs.Common.{Any, Contains, take}
use Rattle.lft_resolve.specs.inner.References.{ref_trees}
use Rattle.lft_validate.proofs.sources.first_shared.Given as goal

abbrev pub invariant-loop-place : goal.invariant-loop-place
invariant-loop-place l = Any (λ ref. Contains (ref_trees l.effects) ref) (ref_trees (take l.place l.destinations)) → ⊥
