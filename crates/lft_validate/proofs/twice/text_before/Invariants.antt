use Rattle.std.proofs.Common.{◌≡◌, ℕ, List, Some, Any, slice_get, take}
use Rattle.lft_resolve.specs.inner.Tests.{texts}
use Rattle.lft_validate.proofs.twice.text_before.Given as goal

abbrev pub invariant-loop-before : goal.invariant-loop-before
invariant-loop-before l = (x : List ℕ) → slice_get (texts l.names) l.place ≡ Some x → Any (λ y. y ≡ x) (texts (take l.before l.names)) → ⊥
