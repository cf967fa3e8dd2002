-- Inside: what a run read and answered, by its steps.
use Rattle.std.specs.Prelude.{List, Option, map}
use Rattle.lft_ir.specs.declared.{parts.{Name.Name, Value.Value}, steps.row.Step.Step}
use Rattle.lft_model.specs.Runs.{Answer, Outcome, read_of, outcome_of, request_of, Outcome.{Written, Scheduled}}
use Rattle.lft_rows.specs.declared.answers.outcomes.Outcome.{Outcome as KeptOutcome}
use Rattle.lft_rows.specs.declared.answers.outcomes.Outcome.TheVariants as kept

-- what some steps read of some inputs
abbrev pub reads_of : List Name → List Step → List (Option Value)
reads_of names steps = map (read_of steps) names

-- the answer that some steps give for some effects
abbrev pub answer_of : List Name → List Step → Answer
answer_of effects steps = record { outcomes = map (outcome_of steps) effects; stops = request_of steps }

-- what a kept outcome says: the value that was written last, if one was, or the schedulings in order
abbrev pub as_outcome : KeptOutcome → Outcome
as_outcome (kept.Written o) = Written o
as_outcome (kept.Scheduled s) = Scheduled s
