-- Inside: what sliced rows and a cut tell: the rows at each tag, the first missing run, and the first tag without any run.
use Rattle.std.specs.Prelude.{◌≡◌, ℕ, ◌<◌, List, Option, Some, slice_get}
use Rattle.lft_tag.specs.{declared.Tag.Tag, Tags.{Before, UpTo}}
use Rattle.lft_model.specs.{Plans.IsSoundPlan, declared.breach.Breach.Breach, Presence.{stop, Triggered}, Runs.Ran, Breaches.RowBreach}
use Rattle.lft_ir.specs.{declared.steps.row.Row.Row, Steps.Fits.RowsFit}
use Rattle.lft_rows.specs.{declared.slices.Slice.Slice, inner.Slices.IsSlice, Presence.Traces.TraceParts}
use Rattle.lft_check.specs.ByTag.Slices.{LeastPair}

-- no row breaks one of the rules 1 to 5
abbrev pub KeepsRows : TraceParts → Type 0
KeepsRows cut = (b : Breach) → ¬ RowBreach cut.plan cut.rows b

-- the rows that are sliced are of the plan's program, and none breaks one of the rules 1 to 5
pub record IsCuttable (cut : TraceParts) : Type 0 where
  pub sound : IsSoundPlan cut.plan
  pub fit : RowsFit cut.plan.program cut.rows
  pub kept : KeepsRows cut

-- the slices of the rows by tag, ascending; each row is in one
pub record AreSlices (t : List Row) (slices : List Slice) : Type 0 where
  pub ascending : (j k : ℕ) (x y : Slice) → j < k → slice_get slices j ≡ Some x → slice_get slices k ≡ Some y → Before x.tag y.tag
  pub is_slice : (k : ℕ) (x : Slice) → slice_get slices k ≡ Some x → IsSlice t x
  pub each : (i : ℕ) (row : Row) → slice_get t i ≡ Some row → (k : ℕ) × (x : Slice) × (slice_get slices k ≡ Some x) × (row.tag ≡ x.tag)

-- r is triggered at g, which is up to the stop, and has no run there
pub record IsMissingRun (cut : TraceParts) (r : ℕ) (g : Tag) : Type 0 where
  pub triggered : Triggered cut.plan cut.rows g r
  pub in_time : UpTo g (stop cut.plan cut.rows)
  pub no_run : ¬ Ran cut.rows g r

-- the least tag up to the stop at which a reaction is triggered and has no run, and the least such reaction
abbrev pub IsFirstMissing : TraceParts → Option (Tag × ℕ) → Type 0
IsFirstMissing cut o = LeastPair (IsMissingRun cut) o

-- the least tag from low on, up to the stop, at which a triggered reaction has no run, and the least such reaction
abbrev pub IsFirstMissingFrom : TraceParts → Tag → Option (Tag × ℕ) → Type 0
IsFirstMissingFrom cut low o = LeastPair (λ r g. IsMissingRun cut r g × UpTo low g) o
