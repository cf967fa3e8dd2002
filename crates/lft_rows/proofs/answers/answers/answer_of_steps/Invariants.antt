use Rattle.std.proofs.Common.{◌≡◌, take, map}
use Rattle.lft_model.specs.Runs.{outcome_of}
use Rattle.lft_rows.specs.inner.Answers.Answers.{as_outcome}
use Rattle.lft_rows.proofs.answers.answers.answer_of_steps.Given as goal

abbrev pub invariant-loop-place : goal.invariant-loop-place
invariant-loop-place l = map as_outcome l.outcomes.items ≡ map (outcome_of l.steps) (take l.place l.effects)
