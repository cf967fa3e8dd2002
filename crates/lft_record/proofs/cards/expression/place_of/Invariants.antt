use Rattle.std.proofs.Common.{◌≡◌, ◌≤◌, ◌<◌, ℕ, length, take, filter_map, Some, slice_get}
use Rattle.lft_ir.specs.Naming.{named}
use Rattle.lft_record.proofs.cards.expression.place_of.Given as goal

abbrev pub invariant-loop-at : goal.invariant-loop-at
invariant-loop-at l = record {
  few : l.place ≤ l.at;
  place : l.place ≡ length (filter_map named (take l.at l.triggers));
  none : (i : ℕ) → slice_get (filter_map named (take l.at l.triggers)) i ≡ Some l.name → ⊥;
}

abbrev pub invariant-loop-at-2 : goal.invariant-loop-at-2
invariant-loop-at-2 l = (j : ℕ) → j < l.at → slice_get l.uses j ≡ Some l.name → ⊥
