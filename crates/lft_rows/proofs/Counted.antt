-- The number of start rows, one row after another.
use Rattle.std.proofs.Common.{◌≡◌, ℕ, ◌+◌, List, take, refl, ap, ◌∙◌, Some, slice_get, false}
use Rattle.std.proofs.lemmas.{List.Sums.{count_by_more_yes, count_by_more_no}, Option.get_or_from_slice_get}
use Rattle.lft_ir.specs.declared.steps.row.{Row.Row, Step.{Step, TheVariants.{Start, Read, Write, Schedule, Stop, End}}}
use Rattle.lft_model.{proofs.Places.slice_get_within, specs.Accepted.{begins, runs_in}}

not_begins : (s : Step) → ¬ (s ≡ Start) → begins s ≡ false
not_begins Start n = absurd (n refl)
not_begins (Read m v) n = refl
not_begins (Write m v) n = refl
not_begins (Schedule m v d) n = refl
not_begins Stop n = refl
not_begins End n = refl

pub count_start : (t : List Row) (i : ℕ) (row : Row) → slice_get t i ≡ Some row → row.step ≡ Start → runs_in (take (i + 1) t) ≡ runs_in (take i t) + 1
count_start t i row e s = count_by_more_yes (λ (x : Row). begins x.step) t i row (slice_get_within t i row e) (ap (λ (x : Row). begins x.step) (get_or_from_slice_get t i row row e) ∙ ap begins s)

pub count_inner : (t : List Row) (i : ℕ) (row : Row) → slice_get t i ≡ Some row → ¬ (row.step ≡ Start) → runs_in (take (i + 1) t) ≡ runs_in (take i t)
count_inner t i row e n = count_by_more_no (λ (x : Row). begins x.step) t i row (slice_get_within t i row e) (ap (λ (x : Row). begins x.step) (get_or_from_slice_get t i row row e) ∙ not_begins row.step n)
