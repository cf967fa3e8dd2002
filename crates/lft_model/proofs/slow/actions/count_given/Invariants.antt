use Rattle.lft_model.{specs.Presence.given, proofs.ActionEvents.IsCountTo}
use Rattle.lft_model.proofs.slow.actions.count_given.Given as goal

abbrev pub invariant-loop-place : goal.invariant-loop-place
invariant-loop-place l = IsCountTo (given l.tag l.action) l.events l.place l.count
