use Rattle.std.proofs.Common.{◌≡◌, ◌<◌, ℕ, Some, slice_get}
use Rattle.std.specs.Prelude.{unwrap_or}
use Rattle.lft_resolve.specs.inner.Places.{place_in}
use Rattle.lft_classes.specs.declared.shapes.Named.{Named}
use Rattle.lft_classes.proofs.shapes.refuse_twice.Given as goal

abbrev pub invariant-loop-place : goal.invariant-loop-place
invariant-loop-place l = (k : ℕ) (n : Named) → k < l.place → slice_get l.named k ≡ Some n → unwrap_or (place_in l.index n.name.now) k ≡ k
