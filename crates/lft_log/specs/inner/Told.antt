-- Inside: what is told of a log.
use Rattle.std.specs.Prelude.{◌≡◌, ◌↔◌, ◌⊎◌, ◌+◌, ◌^◌, ◌≤◌, true, false, ℕ, Bool, List, ◌++◌, ◌∷◌, length, Option, None, Some, MatchOption, slice_get, []}
use Rattle.lft_ir.specs.{declared.steps.row.Row.Row, Steps.Fits.RowsFit}
use Rattle.lft_tag.specs.{declared.Tag.Tag, Tags.{Before, UpTo}}
use Rattle.lft_model.specs.Plans.{PlanParts}
use Rattle.lft_monitor.specs.{inner.Follows.HasGonePast, Follows.{AreTooMany, IsPassed}}
use Rattle.lft_trace.specs.{ExternalTables.IsEntry, declared.{external_table.Entry.Entry, log_table.Line.{Line, TheVariants.Input}}}
use Rattle.lft_log.specs.Logs.{AreTimely, HasNoEnd, HoldSoFar, inputs, rows, HasManyRows}
use Rattle.lft_log.specs.declared.{asked.Asked.Asked, fault.LogFault.{LogFault, TheVariants.{TooManyRows, NoMemory}}, front.LinesRead.LinesRead, log.Log.Log}
use Rattle.lft_log.specs.declared.{rows.LogRows.LogRows, telling.Taken.Taken}
use Rattle.lft_log.specs.Told.{HasTold, TellsPlan, IsFirstFrom, RecordStandsBehind, IsFaultOf}

-- the first row at or past the asked tag is at the last tag of the rows
pub record ComeTo (asked : Tag) (t : List Row) (last : Tag) : Type 0 where
  pub place : ℕ
  pub row : Row
  pub first : IsFirstFrom asked t place row
  pub same : row.tag ≡ last
  pub up : (i : ℕ) (x : Row) → slice_get t i ≡ Some x → UpTo x.tag last

-- where a tag is asked for, the tag of the first row at or past it is kept, if there is one, and no row is past that
abbrev pub IsAskedOf : List Row → Asked → Type 0
IsAskedOf t a = MatchOption a.until (Unit {0}) (λ asked. MatchOption a.last ((i : ℕ) (x : Row) → slice_get t i ≡ Some x → Before x.tag asked) (ComeTo asked t))

-- what in rows shows a fault: they are too many; or memory was refused
abbrev pub IsFaultOfRows : List Row → LogFault → Type 0
IsFaultOfRows t f = (f ≡ TooManyRows) × AreTooMany t ⊎ (f ≡ NoMemory)

-- what is kept is right for the bytes, of which the rest is of no line yet, and for the plan that they tell
pub record IsLogOf (base plan : PlanParts) (until : Option Tag) (bytes rest : List ℕ) (log : Log) : Type 0 where
  pub lines : List Line
  pub told : HasTold base (inputs lines) plan
  pub timely : AreTimely [] lines
  pub follower : HasGonePast plan (rows lines) log.follower
  pub counted : log.rows ≡ length (rows lines)
  pub few : log.rows ≤ 2 ^ 62 + 4000000
  pub numbered : log.inputs ≡ length (inputs lines)
  pub until_is : log.asked.until ≡ until
  pub asked : IsAskedOf (rows lines) log.asked
  pub begun : log.is_begun ≡ true → HoldSoFar base.program bytes lines [] rest
  pub fresh : log.is_begun ≡ false → (bytes ≡ rest) × (lines ≡ [])

-- what is kept is right for the bytes, and the header came
abbrev pub IsBegun : PlanParts → PlanParts → Option Tag → List ℕ → List ℕ → Log → Type 0
IsBegun base plan until bytes rest log = IsLogOf base plan until bytes rest log × (log.is_begun ≡ true)

-- the fault is that of a log behind whose lines stands a record of the external input, with this number
abbrev pub IsInputFault : PlanParts → List Row → Entry → ℕ → LogFault → Type 0
IsInputFault plan t entry number f = (base : PlanParts) (bytes : List ℕ) (lines : List Line) → RecordStandsBehind base.program bytes lines (λ f. IsEntry base.program f entry) → HasTold base (inputs lines) plan → rows lines ≡ t → number ≡ length (inputs lines) + 2 → IsFaultOf base bytes f

-- the tag is before this one, where there is one
abbrev pub IsBeforeLatest : Tag → Option Tag → Type 0
IsBeforeLatest g None = ⊥
IsBeforeLatest g (Some latest) = Before g latest

-- the latest tag of rows, where there are some: a tag is passed where it is before it
abbrev pub IsLatestTag : List Row → Option Tag → Type 0
IsLatestTag t latest = (g : Tag) → IsPassed t g ↔ IsBeforeLatest g latest

-- the next line is an external input of which the fault is told, behind these rows and so many external inputs, where the plan has these
abbrev pub IsInputRefused : PlanParts → List Row → ℕ → List Line → Option LogFault → Type 0
IsInputRefused plan t number lines fault = (entry : Entry) × (more : List Line) × (lines ≡ Input entry ∷ more) × ((f : LogFault) × (fault ≡ Some f) × IsInputFault plan t entry number f)

-- behind these rows and so many external inputs the first lines of a front are taken: their external inputs are told to the plan in time; they are all, with the front's own fault, or the next is refused
pub record IsTaken (old new : PlanParts) (t : List Row) (before : ℕ) (front : LinesRead) (lines : List Line) (taken : Taken) : Type 0 where
  pub first : List Line
  pub others : List Line
  pub parted : lines ≡ first ++ others
  pub counted : taken.rows ≡ length (rows first)
  pub numbered : taken.inputs ≡ length (inputs first)
  pub timely : AreTimely t first
  pub told : (base : PlanParts) (earlier : List Entry) → HasTold base earlier old → HasTold base (earlier ++ inputs first) new
  pub ends : (others ≡ []) × (taken.fault ≡ front.fault) ⊎ IsInputRefused new (t ++ rows first) (before + taken.inputs + 2) others taken.fault

-- what is kept is right for the bytes, and the rest is that of a line whose end hasn't come
pub record IsLog (base plan : PlanParts) (until : Option Tag) (bytes : List ℕ) (log : Log) : Type 0 where
  pub kept : IsLogOf base plan until bytes log.rest.items log
  pub open_line : HasNoEnd log.rest.items

-- the rows that are read are those with which the bytes begin, for the plan that they tell; where they are said to be cut short, there are more than a table may have
abbrev pub HasRead : PlanParts → PlanParts → List ℕ → LogRows → Type 0
HasRead base plan bytes r = ((others : List (List (List ℕ))) × (rest : List ℕ) × TellsPlan base bytes plan r.rows.items others rest) × RowsFit plan.program r.rows.items × (r.is_cut ≡ true → HasManyRows base.program bytes)

-- the same, up to a rest, and they are followed
pub record IsReadSoFar (base plan : PlanParts) (bytes rest : List ℕ) (r : LogRows) : Type 0 where
  pub tells : TellsPlan base bytes plan r.rows.items [] rest
  pub fit : RowsFit plan.program r.rows.items
  pub follower : HasGonePast plan r.rows.items r.follower
  pub uncut : r.is_cut ≡ false

-- the rows are read up to a rest, or no more is to be read
abbrev pub IsReadOn : Bool → PlanParts → PlanParts → List ℕ → List ℕ → LogRows → Type 0
IsReadOn true base plan bytes rest r = IsReadSoFar base plan bytes rest r
IsReadOn false base plan bytes rest r = HasRead base plan bytes r
