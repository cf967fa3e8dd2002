use Rattle.std.proofs.Common.{◌≡◌, take, filter_map}
use Rattle.std.specs.List.{enumerate_from}
use Rattle.lft_pair.specs.Runs.{placed_step}
use Rattle.lft_pair.proofs.contrasting.runs.placed_steps.Given as goal

abbrev pub invariant-loop-place : goal.invariant-loop-place
invariant-loop-place l = l.steps.items ≡ filter_map (placed_step l.tag l.reaction) (take l.place (enumerate_from 0 l.rows))
