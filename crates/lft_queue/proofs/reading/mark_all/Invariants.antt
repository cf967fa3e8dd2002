use Rattle.std.proofs.Common.{◌≡◌, ◌↔◌, ◌⊎◌, ℕ, Some, true, length, slice_get, take, Contains}
use Rattle.lft_ir.specs.declared.parts.Name.TheVariants.{Port}
use Rattle.lft_queue.proofs.reading.mark_all.Given as goal

abbrev pub invariant-names : goal.invariant-names
invariant-names l = record {
  count : length l.marked ≡ length l.fn.marked;
  each : (p : ℕ) → (slice_get l.marked p ≡ Some true) ↔ ((slice_get l.fn.marked p ≡ Some true) ⊎ Contains (take l.place l.names) (Port p));
}
