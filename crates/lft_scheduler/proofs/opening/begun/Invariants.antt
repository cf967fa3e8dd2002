use Rattle.std.proofs.Common.{◌≡◌, ◌∷◌, take, map, filter_map, zip}
use Rattle.lft_ir.specs.declared.steps.row.Step.TheVariants.{Start}
use Rattle.lft_model.specs.{Runs.read_step, Recorded.run_row}
use Rattle.lft_scheduler.proofs.opening.begun.Given as goal

abbrev pub invariant-loop-at : goal.invariant-loop-at
invariant-loop-at l = l.rows.items ≡ map (run_row l.worker l.tag l.reaction) (Start ∷ filter_map read_step (zip (take l.at l.names) l.shown))
