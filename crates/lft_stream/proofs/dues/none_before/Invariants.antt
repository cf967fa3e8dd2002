use Rattle.std.proofs.Common.{◌≡◌, ℕ, ◌<◌, Some, slice_get}
use Rattle.lft_stream.specs.{declared.due.Due.Due, inner.Dues.IsDueBefore}
use Rattle.lft_stream.proofs.dues.none_before.Given as goal

abbrev pub invariant-loop-place : goal.invariant-loop-place
invariant-loop-place l = (k : ℕ) (due : Due) → k < l.place → slice_get l.dues k ≡ Some due → ¬ IsDueBefore l.last l.low due
