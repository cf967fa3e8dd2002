use Rattle.std.proofs.Common.{◌≡◌, [], take, filter_map}
use Rattle.lft_pair.specs.Runs.{request_of_step}
use Rattle.lft_pair.proofs.contrasting.answers.first_request.Given as goal

abbrev pub invariant-loop-place : goal.invariant-loop-place
invariant-loop-place l = filter_map request_of_step (take l.place l.steps) ≡ []
