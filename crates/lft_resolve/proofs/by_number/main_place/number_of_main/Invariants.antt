use Rattle.std.proofs.Common.{Any, true, ◌≡◌, take}
use Rattle.lft_resolve.specs.inner.References.{reactor_trees}
use Rattle.lft_resolve.proofs.by_number.main_place.number_of_main.Given as goal

abbrev pub invariant-loop-number : goal.invariant-loop-number
invariant-loop-number l = Any (λ r. r.is_main ≡ true) (reactor_trees (take l.number l.reactors)) → ⊥
