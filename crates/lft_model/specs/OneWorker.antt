-- The machine with one worker: its whole state is the list of the runs so far.
use Rattle.std.specs.Prelude.{◌≡◌, ℕ, List, [], ◌∷◌, ◌++◌, Some, slice_get, take, ◌⊎◌}
use Rattle.std.specs.List.{AllZip}
use Rattle.lft_tag.specs.{declared.Tag.Tag, Tags.UpTo}
use Rattle.lft_ir.specs.declared.{parts.Name.Name, steps.row.Row.Row}
use Rattle.lft_model.specs.{Plans.PlanParts, Presence.{stop, Triggered, Inputs, Collision}}
use Rattle.lft_model.specs.{Runs.{Run, Outcome, Ran, rows_of, effects_of, by_ends, Outcome.{Written, Scheduled}}, Breaches.{Legal, EndsBefore, MaySchedule}}
use Rattle.lft_graph.specs.Precedence.{Precedes}

-- what holds of runs is what holds of their rows
abbrev pub rows : PlanParts → List Run → List Row
rows plan runs = rows_of plan.program runs

-- one of the runs is of r at g
pub record HasRun (runs : List Run) (g : Tag) (r : ℕ) : Type 0 where
  pub place : ℕ
  pub run : Run
  pub is_run : slice_get runs place ≡ Some run
  pub same_tag : run.tag ≡ g
  pub same_reaction : run.reaction ≡ r

-- r is triggered at g, up to the stop, and has no run there
pub record IsPending (plan : PlanParts) (runs : List Run) (g : Tag) (r : ℕ) : Type 0 where
  pub in_time : UpTo g (stop plan (rows plan runs))
  pub triggered : Triggered plan (rows plan runs) g r
  pub no_run : ¬ HasRun runs g r

-- r may run next: it is pending, at the least tag at which a reaction is, and none that precedes it is pending there
pub record Ready (plan : PlanParts) (runs : List Run) (g : Tag) (r : ℕ) : Type 0 where
  pub pending : IsPending plan runs g r
  pub least : (h : Tag) (a : ℕ) → IsPending plan runs h a → UpTo g h
  pub none_before : (a : ℕ) → Precedes plan.program a r → ¬ IsPending plan runs g a

-- an outcome that an effect may have: written for a port, schedulings for a logical action, none for a physical one
abbrev pub MayHave : PlanParts → ℕ → Name → Outcome → Type 0
MayHave plan r (Name.Port p) (Written o) = Unit {0}
MayHave plan r (Name.Port p) (Scheduled s) = ⊥
MayHave plan r (Name.Action a) (Written o) = ⊥
MayHave plan r (Name.Action a) (Scheduled s) = (s ≡ []) ⊎ MaySchedule plan.program r (Name.Action a)

-- u may be the next run
pub record Next (plan : PlanParts) (runs : List Run) (u : Run) : Type 0 where
  pub ready : Ready plan runs u.tag u.reaction
  pub reads : Inputs plan (rows plan runs) u.tag u.reaction u.reads
  pub answers : AllZip (MayHave plan u.reaction) (effects_of plan.program u.reaction) u.answer.outcomes
  pub no_clash : ¬ Collision plan (rows plan (runs ++ u ∷ [])) u.tag

-- each run is the next after those before it
abbrev pub Path : PlanParts → List Run → Type 0
Path plan runs = (k : ℕ) (u : Run) → slice_get runs k ≡ Some u → Next plan (take k runs) u

-- some runs make no collision at a tag up to their stop
abbrev pub NoClash : PlanParts → List Run → Type 0
NoClash plan runs = (g : Tag) → UpTo g (stop plan (rows plan runs)) → ¬ Collision plan (rows plan runs) g

-- a whole execution: a path without a collision up to the stop, after which nothing is pending
pub record OneWorker (plan : PlanParts) (runs : List Run) : Type 0 where
  pub path : Path plan runs
  pub no_clash : NoClash plan runs
  pub finished : (g : Tag) (r : ℕ) → ¬ IsPending plan runs g r

-- no run started before every run that precedes it at its tag had ended
abbrev pub InOrderOfPrecedence : PlanParts → List Row → Type 0
InOrderOfPrecedence plan t = (g : Tag) (a r : ℕ) → Precedes plan.program a r → Ran t g a → Ran t g r → EndsBefore t g a r

-- the first half of the law: a legal trace, in order of its ends, is an execution by one worker
abbrev pub LegalRunsAreOneWorker : PlanParts → Type 0
LegalRunsAreOneWorker plan = (t : List Row) → Legal plan t → OneWorker plan (by_ends plan t)

-- of each legal trace: no run started before every run that precedes it at its tag had ended
abbrev pub LegalRunsKeepPrecedence : PlanParts → Type 0
LegalRunsKeepPrecedence plan = (t : List Row) → Legal plan t → InOrderOfPrecedence plan t

-- the second half: the rows of each execution by one worker are a legal trace
abbrev pub OneWorkerRowsAreLegal : PlanParts → Type 0
OneWorkerRowsAreLegal plan = (l : List Run) → OneWorker plan l → Legal plan (rows plan l)
