use Rattle.lft_model.{specs.Presence.{min_delay, scheduled}, proofs.ActionEvents.IsCountTo}
use Rattle.lft_model.proofs.slow.actions.count_scheduled.Given as goal

abbrev pub invariant-loop-place : goal.invariant-loop-place
invariant-loop-place l = IsCountTo (scheduled l.tag l.action (min_delay l.plan.program l.action)) l.rows l.place l.count
