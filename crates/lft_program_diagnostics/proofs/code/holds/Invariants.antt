use Rattle.std.proofs.Common.{◌≡◌, ℕ, ◌<◌, ◌+◌, length, slice_range}
use Rattle.lft_program_diagnostics.proofs.code.holds.Given as goal

abbrev pub invariant-loop-start : goal.invariant-loop-start
invariant-loop-start l = (place : ℕ) → place < l.start → slice_range l.text place (place + length l.bytes) ≡ l.bytes → ⊥
