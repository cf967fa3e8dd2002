use Rattle.std.proofs.Common.{◌≡◌, ◌<◌, ℕ, Some, length, slice_get, string_bytes}
use Rattle.std.specs.Prelude.{unwrap_or}
use Rattle.lft_resolve.specs.inner.Places.{place_in}
use Rattle.lft_whole.specs.declared.tree.Assignment.{Assignment}
use Rattle.lft_classes.specs.{declared.shapes.GivenValue.GivenValue, inner.{Built.IsOf, Shapes.thing_named}}
use Rattle.lft_classes.proofs.making.given_of.Given as goal

abbrev pub invariant-loop-place : goal.invariant-loop-place
invariant-loop-place l = record {
  once : (k : ℕ) (a : Assignment) → k < l.place → slice_get l.instance.given.items k ≡ Some a → unwrap_or (place_in l.index (string_bytes a.name.text)) k ≡ k;
  long : length l.given.items ≡ l.place;
  given : (k : ℕ) (a : Assignment) (g : GivenValue) → slice_get l.instance.given.items k ≡ Some a → slice_get l.given.items k ≡ Some g → IsOf (thing_named l.inner) a g;
}
