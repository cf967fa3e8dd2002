-- Runs: what a reaction read at a tag and what it answered.
use Rattle.std.specs.Prelude.{◌≡◌, ℕ, ◌==◌, ◌&&◌, ◌||◌, Bool, true, false, cond, List, [], ◌∷◌, ◌++◌, Option, Some, None, map, filter_map, flat_map, slice_get, zip, option_map, unwrap_or}
use Rattle.std.specs.List.{last_or}
use Rattle.lft_tag.specs.{declared.Tag.Tag, Tags.same_tag}
use Rattle.lft_ir.specs.Parts.{Parts, inputs}
use Rattle.lft_ir.specs.declared.parts.{Value.Value, Name.{Name, TheVariants.{Port, Action}}}
use Rattle.lft_ir.specs.declared.steps.row.{Row.Row, Step.{Step, TheVariants.{Start, Read, Write, Schedule, Stop, End}}}
use Rattle.lft_ir.specs.Naming.{same_name}
use Rattle.lft_model.specs.{Plans.PlanParts, Presence.{value_written, value_scheduled}}

-- what a run answered for one effect: the last value written to a port, or none; the schedulings of an action in order
pub data Outcome : Type 0 where
  Written : Option Value → Outcome
  Scheduled : List (ℕ × Value) → Outcome

-- an answer: one outcome for each effect, and whether a stop was requested
pub record Answer : Type 0 where
  pub outcomes : List Outcome
  pub stops : Bool

-- one read for each input
pub record Run : Type 0 where
  pub tag : Tag
  pub reaction : ℕ
  pub reads : List (Option Value)
  pub answer : Answer

-- the row with which worker w starts the run of r at g
abbrev pub start_row : ℕ → Tag → ℕ → Row
start_row w g r = record { worker = w; tag = g; reaction = r; step = Start }

-- the row with which worker w ends the run of r at g
abbrev pub end_row : ℕ → Tag → ℕ → Row
end_row w g r = record { worker = w; tag = g; reaction = r; step = End }

-- r has a run at g: a start row
pub record Ran (t : List Row) (g : Tag) (r : ℕ) : Type 0 where
  pub place : ℕ
  pub worker : ℕ
  pub starts : slice_get t place ≡ Some (start_row worker g r)

-- the step of a row, where it is of r at g
abbrev pub step_of : Tag → ℕ → Row → Option Step
step_of g r row = cond (same_tag g row.tag && (r == row.reaction)) (Some row.step) None

-- the steps of the run of r at g, in order
abbrev pub steps_of : List Row → Tag → ℕ → List Step
steps_of t g r = filter_map (step_of g r) t

abbrev pub value_read : Name → Step → Option Value
value_read m (Read n v) = cond (same_name m n) (Some v) None
value_read m Start = None
value_read m (Write n v) = None
value_read m (Schedule n v d) = None
value_read m Stop = None
value_read m End = None

-- what some steps read of a name
abbrev pub read_of : List Step → Name → Option Value
read_of steps n = last_or None (filter_map (value_read n) steps)

-- what some steps answered for an effect
abbrev pub outcome_of : List Step → Name → Outcome
outcome_of steps (Port p) = Written (last_or None (filter_map (value_written p) steps))
outcome_of steps (Action a) = Scheduled (filter_map (value_scheduled a) steps)

-- the test of a step being a stop request
abbrev pub is_stop : Step → Bool
is_stop Stop = true
is_stop Start = false
is_stop (Read n v) = false
is_stop (Write n v) = false
is_stop (Schedule n v d) = false
is_stop End = false

-- whether some steps request a stop
abbrev pub request_of : List Step → Bool
request_of [] = false
request_of (s ∷ steps) = is_stop s || request_of steps

-- a reaction's inputs and effects, by its number
abbrev pub inputs_of : Parts → ℕ → List Name
inputs_of program r = unwrap_or (option_map inputs (slice_get program.reactions r)) []

abbrev pub effects_of : Parts → ℕ → List Name
effects_of program r = unwrap_or (option_map (λ x. x.effects) (slice_get program.reactions r)) []

-- what r read at g: of each of its inputs in order its value, or that it is absent
abbrev pub reads_at : PlanParts → List Row → Tag → ℕ → List (Option Value)
reads_at plan t g r = map (read_of (steps_of t g r)) (inputs_of plan.program r)

-- what r answered at g: the outcome for each of its effects in order, and whether it requested a stop
abbrev pub answer_at : PlanParts → List Row → Tag → ℕ → Answer
answer_at plan t g r = record { outcomes = map (outcome_of (steps_of t g r)) (effects_of plan.program r); stops = request_of (steps_of t g r) }

abbrev pub run_at : PlanParts → List Row → Tag → ℕ → Run
run_at plan t g r = record { tag = g; reaction = r; reads = reads_at plan t g r; answer = answer_at plan t g r }

-- the run that a row ends
abbrev pub ended_by : PlanParts → List Row → Row → Step → Option Run
ended_by plan t row End = Some (run_at plan t row.tag row.reaction)
ended_by plan t row Start = None
ended_by plan t row (Read n v) = None
ended_by plan t row (Write n v) = None
ended_by plan t row (Schedule n v d) = None
ended_by plan t row Stop = None

-- the runs of t that have an end row, in order of these rows
abbrev pub by_ends : PlanParts → List Row → List Run
by_ends plan t = filter_map (λ row. ended_by plan t row row.step) t

-- the rows of a run: start, what was read, one write for each port with a value, the schedulings, a stop where one was requested, end
abbrev pub read_step : Name × Option Value → Option Step
read_step x = option_map (λ v. Read x.0 v) x.1

abbrev pub write_step_of : Name → Outcome → Option Step
write_step_of n (Written o) = option_map (λ v. Write n v) o
write_step_of n (Scheduled s) = None

abbrev pub write_step : Name × Outcome → Option Step
write_step x = write_step_of x.0 x.1

abbrev pub schedule_steps_of : Name → Outcome → List Step
schedule_steps_of n (Written o) = []
schedule_steps_of n (Scheduled s) = map (λ y. Schedule n y.1 y.0) s

abbrev pub schedule_steps : Name × Outcome → List Step
schedule_steps x = schedule_steps_of x.0 x.1

abbrev pub closing_steps : Bool → List Step
closing_steps true = Stop ∷ End ∷ []
closing_steps false = End ∷ []

abbrev pub steps_of_run : Parts → Run → List Step
steps_of_run program u =
    Start ∷ filter_map read_step (zip (inputs_of program u.reaction) u.reads)
    ++ filter_map write_step (zip (effects_of program u.reaction) u.answer.outcomes)
    ++ flat_map schedule_steps (zip (effects_of program u.reaction) u.answer.outcomes)
    ++ closing_steps u.answer.stops

abbrev pub rows_of_run : Parts → Run → List Row
rows_of_run program u = map (λ s. record { worker = 0; tag = u.tag; reaction = u.reaction; step = s }) (steps_of_run program u)

-- the rows of some runs one after another, by worker 0
abbrev pub rows_of : Parts → List Run → List Row
rows_of program runs = flat_map (rows_of_run program) runs
