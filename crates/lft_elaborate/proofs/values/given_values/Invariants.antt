use Rattle.std.proofs.Common.{◌≡◌, ℕ, ◌<◌, drop, map, option_map, slice_get, Some, vec_len}
use Rattle.lft_elaborate.specs.inner.Values.{given_to}
use Rattle.lft_elaborate.proofs.values.given_values.Given as goal

abbrev pub invariant-loop-place : goal.invariant-loop-place
invariant-loop-place l = record {
  long : vec_len l.table ≡ l.fn.count;
  given : (p : ℕ) → p < l.fn.count → slice_get (map (λ found. option_map (λ value. value.now.value) found) l.table.items) p ≡ Some (given_to (drop l.place l.child.given.items) p);
}
