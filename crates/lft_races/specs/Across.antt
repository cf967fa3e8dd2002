-- Which row starts the run of another one or starts it again, what a run read, and which runs are open across a later tag.
use Rattle.std.specs.Prelude.{◌≡◌, ℕ, ◌<◌, List, Some, slice_get}
use Rattle.lft_tag.specs.{declared.Tag.Tag, Tags.Before}
use Rattle.lft_ir.specs.declared.{parts.{Name.Name, Value.Value}, steps.row.{Row.Row, Step.TheVariants.{Start, Read}}}
use Rattle.lft_races.specs.Runs.{StartsAt, IsOpenSince}

-- the row at place i starts the run that the one at place j before it starts
pub record StartsTwice (t : List Row) (i j : ℕ) : Type 0 where
  pub row : Row
  pub is_row : slice_get t i ≡ Some row
  pub starts : row.step ≡ Start
  pub first : StartsAt t row.tag row.reaction j
  pub before : j < i

-- the row at place j reads n in the run of r at g
abbrev pub ReadsAt : List Row → Tag → ℕ → Name → ℕ → Type 0
ReadsAt t g r n j = (w : ℕ) × (v : Value) × (slice_get t j ≡ Some (record { worker = w; tag = g; reaction = r; step = Read n v }))

-- the row at place i is of an open run, which starts in the one at place j; the one at place k between the two is at a later tag than the run, and the first such row of all
pub record IsOpenAcross (t : List Row) (i j k : ℕ) : Type 0 where
  pub row : Row
  pub later : Row
  pub is_row : slice_get t i ≡ Some row
  pub is_later : slice_get t k ≡ Some later
  pub starts : StartsAt t row.tag row.reaction j
  pub open_since : IsOpenSince t i row.worker j
  pub behind : j < k
  pub before : k < i
  pub after : Before row.tag later.tag
  pub first : (m : ℕ) (x : Row) → m < k → slice_get t m ≡ Some x → ¬ Before row.tag x.tag

-- the row at place i is of a run that was open when the first row at a later tag came
abbrev pub IsAcross : List Row → ℕ → Type 0
IsAcross t i = (j k : ℕ) × IsOpenAcross t i j k
