use Rattle.std.proofs.Common.{◌≡◌, take, filter_map}
use Rattle.lft_model.specs.Runs.{step_of}
use Rattle.lft_rows.proofs.answers.steps.read_steps.Given as goal

abbrev pub invariant-loop-at : goal.invariant-loop-at
invariant-loop-at l = l.steps.items ≡ filter_map (step_of l.start.tag l.start.reaction) (take l.at l.rows)
