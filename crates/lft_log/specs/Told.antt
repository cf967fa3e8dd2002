-- What is told of a log.
use Rattle.std.specs.Prelude.{◌≡◌, ◌⊎◌, ◌+◌, ◌^◌, ◌<◌, ◌≤◌, true, ℕ, Bool, List, ◌++◌, ◌∷◌, length, filter_map, Option, None, Some, slice_get, Result, IfOk, []}
use Rattle.std.specs.{Global.Vec, List.Sorted.IsPermutation}
use Rattle.lft_ir.specs.{Parts.Parts, declared.steps.{externals.Event.Event as EventOf, row.Row.Row}, Steps.Inputs.{InOrder, IsTold}}
use Rattle.lft_tag.specs.{declared.{NoMemory.NoMemory as WantOfMemory, Tag.Tag}, Tags.{Before, UpTo, earliest}}
use Rattle.lft_model.specs.{Plans.PlanParts, Breaches.First, Accepted.IsAccepted}
use Rattle.lft_monitor.specs.{declared.open.StillOpen.StillOpen, OpenRuns.AreOpenRuns}
use Rattle.lft_monitor.specs.Follows.{AreTooMany, HasManyLater, IsSureSoFar, IsOddSoFar, IsCleanSoFar, IsFirstUpToLast, IsJudged, IsPassed, IsQuiet, breach_of}
use Rattle.lft_trace.specs.{ExternalTables.{IsEntry, event_of, stop_of}, LogTables.IsNoLine}
use Rattle.lft_trace.specs.declared.{external_table.Entry.{Entry, TheVariants.Happens}, log_table.Line.Line}
use Rattle.lft_log.specs.Logs.{AreTimely, BeginsLong, BeginsWithLine, BeginsWithRecord, HasNoEnd, HoldSoFar, IsHead, IsOddLine, LastCounts, LastIsLeft, inputs, rows, tag_of_entry}
use Rattle.lft_log.specs.declared.fault.LogFault.{LogFault}
use Rattle.lft_log.specs.declared.fault.LogFault.TheVariants.{NoHeader, NoRow, NoInput, LateInput, InputAgain, ManyLater, LongLine, TooManyRows, TooManyInputs, NoMemory}
use Rattle.lft_log.specs.declared.told.{Told.{Told, TheVariants.{Broken, Odd, Reached}}, Final.{Final, TheVariants.{Soon, AtEnd}}}
use Rattle.lft_monitor.specs.declared.judged.Ending.TheVariants as ending
use Rattle.lft_trace.specs.declared.log_table.LineFault.TheVariants as none

-- the plan of a log: its events are those given before and those of the log, and its stop is the least of them
pub record HasTold (base : PlanParts) (inputs : List Entry) (plan : PlanParts) : Type 0 where
  pub program : plan.program ≡ base.program
  pub events : IsPermutation (base.externals.events ++ filter_map event_of inputs) plan.externals.events
  pub order : InOrder plan.externals.events
  pub stop : plan.externals.stop ≡ earliest base.externals.stop (filter_map stop_of inputs)

-- the bytes are a log of the rows, up to other records and a rest, whose external inputs are told in time, and this is its plan
pub record TellsPlan (base : PlanParts) (bytes : List ℕ) (plan : PlanParts) (t : List Row) (others : List (List (List ℕ))) (rest : List ℕ) : Type 0 where
  pub lines : List Line
  pub held : HoldSoFar base.program bytes lines others rest
  pub rows_are : rows lines ≡ t
  pub timely : AreTimely [] lines
  pub told : HasTold base (inputs lines) plan

-- the row at the place is the first that is at the tag or past it
pub record IsFirstFrom (asked : Tag) (t : List Row) (place : ℕ) (row : Row) : Type 0 where
  pub there : slice_get t place ≡ Some row
  pub from : UpTo asked row.tag
  pub first : (i : ℕ) (x : Row) → i < place → slice_get t i ≡ Some x → Before x.tag asked

-- the tag isn't past the end of what is asked for, which is the tag of the first row at or past it
abbrev pub IsWithinAsked : Option Tag → List Row → Tag → Type 0
IsWithinAsked None t g = Unit {0}
IsWithinAsked (Some asked) t g = (place : ℕ) (row : Row) → IsFirstFrom asked t place row → UpTo g row.tag

-- no row is past the end of what is asked for
abbrev pub KeepTo : Option Tag → List Row → Type 0
KeepTo until t = (i : ℕ) (x : Row) → slice_get t i ≡ Some x → IsWithinAsked until t x.tag

-- the tag is past the end of what is asked for
abbrev pub IsPastEnd : Option Tag → List Row → Tag → Type 0
IsPastEnd None t g = ⊥
IsPastEnd (Some asked) t g = (place : ℕ) × (row : Row) × IsFirstFrom asked t place row × Before row.tag g

-- the rows are all that are asked for: the next one is past their end
abbrev pub AreAll : Option Tag → List Row → List Row → Type 0
AreAll until t more = (next : Row) × (slice_get more 0 ≡ Some next) × IsPastEnd until t next.tag

-- what is told before the end is so of these rows: a breach is sure behind some of them, or so many of them are clean, and the line is a later one; or they are all that are asked for, nothing was to be told before, and the breach is their first; or all of them are clean
abbrev pub IsSaid : PlanParts → Option Tag → List Row → List Row → Told → Type 0
IsSaid plan until t more (Broken b) = IsSureSoFar plan t (breach_of b) ⊎ AreAll until t more × IsQuiet plan t × IsFirstUpToLast plan t (breach_of b)
IsSaid plan until t more (Odd r line) = IsOddSoFar plan t r line
IsSaid plan until t more (Reached r) = AreAll until t more × IsCleanSoFar plan t r

-- what is told before the end is so of the first rows of the bytes, none of which is past the end of what is asked for, for the plan that they tell
abbrev pub IsSoon : PlanParts → Option Tag → List ℕ → Told → Type 0
IsSoon base until bytes told = (plan : PlanParts) × (t : List Row) × (more : List Row) × (others : List (List (List ℕ))) × (rest : List ℕ) × TellsPlan base bytes plan (t ++ more) others rest × KeepTo until t × IsSaid plan until t more told

-- what is told at the end, where no row is past the end of what is asked for: the bytes are a log whose rows are accepted, for the plan that it tells; or a log and a line without its end, and the rows are clean, all or but those at the last tag; or the bytes are a log, no row is missing, and this is their first breach
abbrev pub IsFinal : PlanParts → Option Tag → Bool → List ℕ → Final → Type 0
IsFinal base until whole bytes (Soon told) = IsSoon base until bytes told
IsFinal base until whole bytes (AtEnd (ending.Accepted c)) = (plan : PlanParts) × (t : List Row) × TellsPlan base bytes plan t [] [] × KeepTo until t × IsAccepted plan t c.runs c.tags
IsFinal base until whole bytes (AtEnd (ending.Unbroken r)) = (plan : PlanParts) × (t : List Row) × (rest : List ℕ) × TellsPlan base bytes plan t [] rest × KeepTo until t × HasNoEnd rest × (IsJudged plan t r ⊎ IsCleanSoFar plan t r)
IsFinal base until whole bytes (AtEnd (ending.Broken b)) = (whole ≡ true) × ((plan : PlanParts) × (t : List Row) × TellsPlan base bytes plan t [] [] × KeepTo until t × First plan t (breach_of b))

-- what is told of bytes behind which no more come, or before the end: at the end it is so of all that counts
abbrev pub IsEnded : PlanParts → Option Tag → Bool → List ℕ → Final → Type 0
IsEnded base until whole bytes (Soon told) = IsSoon base until bytes told ⊎ LastCounts bytes × IsSoon base until (bytes ++ 10 ∷ []) told
IsEnded base until whole bytes (AtEnd ending) = LastCounts bytes × IsFinal base until whole (bytes ++ 10 ∷ []) (AtEnd ending) ⊎ LastIsLeft bytes × IsFinal base until whole bytes (AtEnd ending)

-- the bytes are a log, up to a line without its end, and the runs are those of its rows without an end
abbrev pub AreOpenIn : PlanParts → List ℕ → List StillOpen → Type 0
AreOpenIn base bytes runs = (plan : PlanParts) × (t : List Row) × (rest : List ℕ) × TellsPlan base bytes plan t [] rest × HasNoEnd rest × AreOpenRuns 0 t runs

-- the same of bytes behind which no more come, of all that counts
abbrev pub AreOpenAtEnd : PlanParts → List ℕ → List StillOpen → Type 0
AreOpenAtEnd base bytes runs = LastCounts bytes × AreOpenIn base (bytes ++ 10 ∷ []) runs ⊎ LastIsLeft bytes × AreOpenIn base bytes runs

-- the bytes are a log of these lines, up to other records and a rest, and no external input among them is late
abbrev pub HoldInTime : Parts → List ℕ → List Line → List (List (List ℕ)) → List ℕ → Type 0
HoldInTime program bytes lines others rest = HoldSoFar program bytes lines others rest × AreTimely [] lines

-- at the end they are given, or memory was refused; what is told before it says nothing of them
abbrev pub TellsOpen : PlanParts → List ℕ → Final → Result (Vec StillOpen) WantOfMemory → Type 0
TellsOpen base bytes (Soon told) runs = Unit {0}
TellsOpen base bytes (AtEnd ending) runs = IfOk runs (λ v. AreOpenAtEnd base bytes v.items)

-- behind the lines of a log stands a record of which this is so
abbrev pub RecordStandsBehind : Parts → List ℕ → List Line → (List (List ℕ) → Type 0) → Type 0
RecordStandsBehind program bytes lines P = (others : List (List (List ℕ))) × (rest : List ℕ) × HoldInTime program bytes lines others rest × BeginsWithRecord P others

-- behind the lines of a log stands one that isn't plain, of which the fault is told
abbrev pub IsOddLineBehind : PlanParts → List ℕ → LogFault → Type 0
IsOddLineBehind base bytes f = (lines : List Line) × (rest : List ℕ) × HoldInTime base.program bytes lines [] rest × BeginsWithLine (IsOddLine (length (rows lines) + 2) (length (inputs lines) + 2) f) rest

-- the plan of these external inputs has 4,000,000 events
abbrev pub AreAllEvents : PlanParts → List Entry → Type 0
AreAllEvents base told = (plan : PlanParts) × HasTold base told plan × (4000000 ≤ length plan.externals.events)

-- what in the bytes shows the fault, with the number of its line among rows or among external inputs; want of memory shows nowhere
abbrev pub IsFaultOf : PlanParts → List ℕ → LogFault → Type 0
IsFaultOf base bytes NoHeader = BeginsWithLine (λ line. ¬ IsHead line) bytes
IsFaultOf base bytes (NoRow e line) = (lines : List Line) × RecordStandsBehind base.program bytes lines (λ f. IsNoLine base.program f (none.NoRow e)) × (line ≡ length (rows lines) + 2)
IsFaultOf base bytes (NoInput e line) = (lines : List Line) × RecordStandsBehind base.program bytes lines (λ f. IsNoLine base.program f (none.NoInput e)) × (line ≡ length (inputs lines) + 2)
IsFaultOf base bytes (LateInput line) = (lines : List Line) × (entry : Entry) × RecordStandsBehind base.program bytes lines (λ f. IsEntry base.program f entry) × IsPassed (rows lines) (tag_of_entry entry) × (line ≡ length (inputs lines) + 2)
IsFaultOf base bytes (InputAgain line) = (lines : List Line) × (event : EventOf) × RecordStandsBehind base.program bytes lines (λ f. IsEntry base.program f (Happens event)) × ((plan : PlanParts) × HasTold base (inputs lines) plan × IsTold plan.externals.events event) × (line ≡ length (inputs lines) + 2)
IsFaultOf base bytes (ManyLater line) = (lines : List Line) × (event : EventOf) × RecordStandsBehind base.program bytes lines (λ f. IsEntry base.program f (Happens event)) × ((plan : PlanParts) × HasTold base (inputs lines) plan × HasManyLater plan.externals.events event.tag) × (line ≡ length (inputs lines) + 2)
IsFaultOf base bytes (LongLine line) = BeginsLong bytes × (line ≡ 1) ⊎ ((lines : List Line) × (rest : List ℕ) × HoldInTime base.program bytes lines [] rest × BeginsLong rest × (line ≡ length (rows lines) + 2))
IsFaultOf base bytes TooManyRows = (lines : List Line) × (others : List (List (List ℕ))) × (rest : List ℕ) × HoldInTime base.program bytes lines others rest × AreTooMany (rows lines)
IsFaultOf base bytes TooManyInputs = ((lines : List Line) × (event : EventOf) × RecordStandsBehind base.program bytes lines (λ f. IsEntry base.program f (Happens event)) × AreAllEvents base (inputs lines)) ⊎ ((lines : List Line) × (rest : List ℕ) × HoldInTime base.program bytes lines [] rest × (2 ^ 62 < length (inputs lines)))
IsFaultOf base bytes NoMemory = Unit {0}
IsFaultOf base bytes f = IsOddLineBehind base bytes f

-- what shows a fault where no more bytes come: it is of all that counts; or a half line that doesn't count is all there is, and there is no header
abbrev pub IsFaultAtEnd : PlanParts → List ℕ → LogFault → Type 0
IsFaultAtEnd base bytes f = LastCounts bytes × IsFaultOf base (bytes ++ 10 ∷ []) f ⊎ LastIsLeft bytes × HasNoEnd bytes × (f ≡ NoHeader)
