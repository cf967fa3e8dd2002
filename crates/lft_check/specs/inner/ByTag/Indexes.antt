-- What sliced rows keep beside the plan and the rows. This serves the making of sliced rows alone.
use Rattle.std.specs.Prelude.{◌≡◌, ℕ, ◌<◌, Bool, true, List, length, Option, Some, slice_get}
use Rattle.lft_tag.specs.{declared.Tag.Tag, Tags.Before}
use Rattle.lft_ir.specs.declared.steps.row.Row.{Row}
use Rattle.lft_model.specs.{Presence.Triggered, Runs.start_row, Accepted.runs_in}
use Rattle.lft_rows.specs.{Presence.Traces.TraceParts, declared.slices.Slice.Slice}
use Rattle.lft_check.specs.{declared.by_tag.{started.Started.Started, slicing.Caused.Caused}, inner.ByTag.Slices.{IsCuttable, AreSlices, IsFirstMissing}}

-- the tags of the starts of r before place i, ascending, and their places
pub record AreStartsOf (t : List Row) (i r : ℕ) (tags : List Tag) (places : List ℕ) : Type 0 where
  pub as_long : length places ≡ length tags
  pub ascending : (j k : ℕ) (g h : Tag) → j < k → slice_get tags j ≡ Some g → slice_get tags k ≡ Some h → Before g h
  pub starts : (k p : ℕ) (g : Tag) → slice_get tags k ≡ Some g → slice_get places k ≡ Some p → (p < i) × ((w : ℕ) × (slice_get t p ≡ Some (start_row w g r)))
  pub each : (p w : ℕ) (g : Tag) → p < i → slice_get t p ≡ Some (start_row w g r) → (k : ℕ) × (slice_get tags k ≡ Some g)

-- the starts before place i of each of n reactions
pub record HasRunsTo (t : List Row) (i n : ℕ) (tags : List (List Tag)) (places : List (List ℕ)) : Type 0 where
  pub many_tags : length tags ≡ n
  pub many_places : length places ≡ n
  pub starts : (r : ℕ) (gs : List Tag) (ps : List ℕ) → slice_get tags r ≡ Some gs → slice_get places r ≡ Some ps → AreStartsOf t i r gs ps

-- what is kept of the runs of n reactions is right for all rows
pub record HasRuns (t : List Row) (n : ℕ) (started : Started) : Type 0 where
  pub lists : HasRunsTo t (length t) n started.tags started.places
  pub runs_are : started.runs ≡ runs_in t

-- the reaction of a row that is marked is triggered at the tag of the row
abbrev pub AreTriggeredRows : TraceParts → List Bool → Type 0
AreTriggeredRows cut due = (i : ℕ) (row : Row) → slice_get due i ≡ Some true → slice_get cut.rows i ≡ Some row → Triggered cut.plan cut.rows row.tag row.reaction

-- what is kept of what the rows cause is right
pub record IsCaused (caused : Caused) : Type 0 where
  pub missing_is : IsFirstMissing caused.presence caused.missing
  pub are_due : AreTriggeredRows caused.presence caused.due.items
  pub runs_are : caused.runs ≡ runs_in caused.presence.rows

-- the places of those of the first k runs that are marked are marked now, and so is what was marked before
pub record AreMarkedTo (places : List ℕ) (known : List Bool) (k : ℕ) (old new : List Bool) : Type 0 where
  pub as_long : length new ≡ length old
  pub kept : (i : ℕ) → slice_get old i ≡ Some true → slice_get new i ≡ Some true
  pub marked : (j p : ℕ) → j < k → slice_get known j ≡ Some true → slice_get places j ≡ Some p → p < length old → slice_get new p ≡ Some true

-- what is kept of plan and rows, none of which breaks one of the rules 1 to 5
pub record IsIndexed (cut : TraceParts) (slices : List Slice) (missing : Option (Tag × ℕ)) (due : List Bool) (runs : ℕ) : Type 0 where
  pub rules : IsCuttable cut
  pub sliced : AreSlices cut.rows slices
  pub missing_is : IsFirstMissing cut missing
  pub are_due : AreTriggeredRows cut due
  pub runs_are : runs ≡ runs_in cut.rows
