-- What is kept beside the rows of a recording, and what it is of them.
use Rattle.std.specs.Prelude.{◌≡◌, ℕ, ◌≤◌, ◌++◌, List, Option, Some, None, length, slice_get}
use Rattle.lft_tag.specs.{declared.Tag.Tag, Tags.{Before, UpTo}}
use Rattle.lft_ir.specs.{Parts.Parts, declared.{parts.Value.Value, steps.row.{Row.Row, Step.{Step, TheVariants.Stop}}}}
use Rattle.lft_queue.specs.Pending.{Pending}
use Rattle.lft_scheduler.specs.inner.{Turns.TurnParts, Listeners.{ListenerParts, AreListeners, AreArrivals}, Events.HasEvents, OpenRuns.AreOpen}
use Rattle.lft_scheduler.specs.inner.{Waits.{IsLeastTag, IsTurnOf}, Firings.AreFirstFirings}
use Rattle.lft_scheduler.specs.{Answering.MayAll, Collisions.{CollidesFirst, IsClean}}
use Rattle.lft_scheduler.specs.Starts.{MayStart, MayStartFirst, NoneMayStart, NothingLeft, SomethingLeft, IsAnyOpen, IsBusy}
use Rattle.lft_scheduler.specs.declared.found.NextRun.{NextRun, TheVariants.{Ready, Blocked, Nothing}}
use Rattle.lft_scheduler.specs.declared.open.OpenRun.{OpenRun}
use Rattle.lft_scheduler.specs.declared.firings.Firing.{Firing}
use Rattle.lft_model.specs.{Plans.{PlanParts, IsSoundPlan}, Presence.{Inputs, stop}, Runs.by_ends, Breaches.IsOpen, OneWorker.{IsPending, rows as rows_of_runs}}
use Rattle.lft_model.specs.Recorded.{SoFar, OnlyEndedAnswer, committed_rows}

-- the open runs, the watched events from a tag on up to the stop, the next firings of timers, how far each reaction is at that tag, that tag, the stop, and the program's tables
pub record AgendaParts : Type 0 where
  pub runs : List OpenRun
  pub queue : List Pending
  pub firings : List Firing
  pub turn : TurnParts
  pub from : Tag
  pub stop : Tag
  pub listeners : ListenerParts
  pub arrivals : List (List ℕ)

-- the tables are those of the program, the turn has a phase for each of its reactions, the firings are the first ones after the tag, and neither the tag nor the stop is past the times of a trace
pub record IsOf (program : Parts) (a : AgendaParts) : Type 0 where
  pub listeners : AreListeners program a.listeners
  pub arrivals : AreArrivals program a.arrivals
  pub phases : length a.turn.phases ≡ length program.reactions
  pub firings : AreFirstFirings program (λ h. Before a.from h) a.firings
  pub reached : a.from.time ≤ 1000000000000000000
  pub recorded : a.stop.time ≤ 1000000000000000000

-- the turn is that of the tag; while something is left to run, the tag is the least at which a reaction is pending, and the queue has the watched events from there on up to the last tag
pub record IsCurrent (plan : PlanParts) (t : List Row) (from last : Tag) (turn : TurnParts) (q : List Pending) : Type 0 where
  pub turn_is : IsTurnOf plan t from turn
  pub least : SomethingLeft plan t → IsLeastTag plan t from
  pub events : SomethingLeft plan t → HasEvents plan t from last None q

-- the agenda's open runs, stop and tables are those of the rows and the plan, and its turn, tag and events are current
pub record IsAgenda (plan : PlanParts) (t : List Row) (a : AgendaParts) : Type 0 where
  pub runs : AreOpen plan t a.runs
  pub stop_is : a.stop ≡ stop plan t
  pub of : IsOf plan.program a
  pub current : IsCurrent plan t a.from a.stop a.turn a.queue

-- no row is after the tag, no reaction is pending before it, the turn is that of the tag, and the queue has the watched events from there on up to the last tag
pub record IsReached (plan : PlanParts) (t : List Row) (from last : Tag) (turn : TurnParts) (q : List Pending) : Type 0 where
  pub past : (i : ℕ) (x : Row) → slice_get t i ≡ Some x → UpTo x.tag from
  pub least : (h : Tag) (c : ℕ) → IsPending plan (by_ends plan t) h c → UpTo from h
  pub turn_is : IsTurnOf plan t from turn
  pub events : HasEvents plan t from last None q

-- the rows are a recording so far with that stop, and no run is open
pub record MayAdvance (plan : PlanParts) (t : List Row) (last : Tag) : Type 0 where
  pub so_far : SoFar plan t
  pub quiet : OnlyEndedAnswer t
  pub stop_is : last ≡ stop plan t
  pub none_open : ¬ IsAnyOpen t

-- the rows are a recording so far of a sound plan, and only ended runs have answered
pub record MayFind (plan : PlanParts) (t : List Row) : Type 0 where
  pub sound : IsSoundPlan plan
  pub so_far : SoFar plan t
  pub quiet : OnlyEndedAnswer t

-- what was found is what may start next
abbrev pub Finds : PlanParts → List Row → NextRun → Type 0
Finds plan t (Ready g r) = MayStartFirst plan t g r
Finds plan t Blocked = NoneMayStart plan t × IsAnyOpen t
Finds plan t Nothing = NothingLeft plan t

-- the worker may begin the run of r at g with these reads
pub record MayBegin (plan : PlanParts) (t : List Row) (w : ℕ) (g : Tag) (r : ℕ) (reads : List (Option Value)) : Type 0 where
  pub so_far : SoFar plan t
  pub quiet : OnlyEndedAnswer t
  pub may : MayStart plan t g r
  pub reads_are : Inputs plan (rows_of_runs plan (by_ends plan t)) g r reads
  pub idle : ¬ IsBusy t w

-- the worker may end its open run of r at g with these steps
pub record MayEnd (plan : PlanParts) (t : List Row) (w : ℕ) (g : Tag) (r : ℕ) (steps : List Step) : Type 0 where
  pub so_far : SoFar plan t
  pub quiet : OnlyEndedAnswer t
  pub open_run : IsOpen t (length t) w g r
  pub may : MayAll plan r steps

-- once it has ended, the rows have a first collision, or none; where they are a recording so far again, the agenda is theirs
abbrev pub EndsWith : PlanParts → List Row → ℕ → Tag → ℕ → List Step → AgendaParts → Option Tag → Type 0
EndsWith plan t w g r steps new (Some h) = CollidesFirst plan (t ++ committed_rows w g r steps) h
EndsWith plan t w g r steps new None = IsClean plan (t ++ committed_rows w g r steps) × (SoFar plan (t ++ committed_rows w g r steps) → IsAgenda plan (t ++ committed_rows w g r steps) new)

-- one of the steps requests a stop
abbrev pub AsksStop : List Step → Type 0
AsksStop steps = (k : ℕ) × (slice_get steps k ≡ Some Stop)
