use Rattle.lft_races.specs.inner.Hints.Actions.{AreActionsTo}
use Rattle.lft_races.proofs.hints.guessing.trigger_actions.Given as goal

abbrev pub invariant-loop-place : goal.invariant-loop-place
invariant-loop-place l = AreActionsTo l.place l.triggers l.actions
