use Rattle.std.proofs.Common.{◌≡◌, ℕ, Some, length, slice_get}
use Rattle.lft_check.specs.{declared.by_tag.absences.Absences.Absences, inner.ByTag.Absences.IsUnknown}
use Rattle.lft_check.proofs.by_tag.absences.absences_of.Given as goal

abbrev pub invariant-loop-number : goal.invariant-loop-number
invariant-loop-number l = record { as_long : length l.absences.items ≡ l.number; unknown : (r : ℕ) (a : Absences) → slice_get l.absences.items r ≡ Some a → IsUnknown a }
