-- The least tag at which a reaction is pending, and how far each reaction is there.
use Rattle.std.specs.Prelude.{◌≡◌, ℕ, List, Option, Some, slice_get, length}
use Rattle.lft_tag.specs.{declared.Tag.Tag, Tags.{Before, UpTo}}
use Rattle.lft_ir.specs.declared.steps.row.Row.{Row}
use Rattle.lft_graph.specs.Graph.{IsGraphOf}
use Rattle.lft_scheduler.specs.{declared.turn.phase.Phase.{Phase, TheVariants.{Idle, Waiting, Open}}, inner.Turns.TurnParts}
use Rattle.lft_model.specs.{Plans.PlanParts, Runs.{Ran, by_ends}, OneWorker.IsPending}

-- some reaction is pending at the tag
abbrev pub Awaits : PlanParts → List Row → Tag → Type 0
Awaits plan t g = (r : ℕ) × IsPending plan (by_ends plan t) g r

-- the least such tag
pub record IsLeastTag (plan : PlanParts) (t : List Row) (g : Tag) : Type 0 where
  pub awaits : Awaits plan t g
  pub least : (h : Tag) (a : ℕ) → IsPending plan (by_ends plan t) h a → UpTo g h

-- the tag is after one and up to another
abbrev pub IsBetween : Tag → Tag → Tag → Type 0
IsBetween from last g = Before from g × UpTo g last

-- the tag that was found is h or an earlier one
abbrev pub IsFoundUpTo : Option Tag → Tag → Type 0
IsFoundUpTo o h = (g : Tag) × (o ≡ Some g) × UpTo g h

-- how far r is at g
abbrev pub PhaseIs : PlanParts → List Row → Tag → ℕ → Phase → Type 0
PhaseIs plan t g r Idle = ¬ IsPending plan (by_ends plan t) g r
PhaseIs plan t g r Waiting = IsPending plan (by_ends plan t) g r × (¬ Ran t g r)
PhaseIs plan t g r Open = IsPending plan (by_ends plan t) g r × Ran t g r

-- the turn of the tag
pub record IsTurnOf (plan : PlanParts) (t : List Row) (g : Tag) (turn : TurnParts) : Type 0 where
  pub graph : IsGraphOf plan.program turn.graph
  pub count : length turn.phases ≡ length plan.program.reactions
  pub phases : (r : ℕ) (x : Phase) → slice_get turn.phases r ≡ Some x → PhaseIs plan t g r x
