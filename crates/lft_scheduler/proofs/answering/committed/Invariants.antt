use Rattle.std.proofs.Common.{◌≡◌, take, map}
use Rattle.lft_model.specs.Recorded.{run_row}
use Rattle.lft_scheduler.proofs.answering.committed.Given as goal

abbrev pub invariant-loop-at : goal.invariant-loop-at
invariant-loop-at l = l.rows.items ≡ map (run_row l.worker l.tag l.reaction) (take l.at l.steps)
