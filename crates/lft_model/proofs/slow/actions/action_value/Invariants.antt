use Rattle.std.proofs.Common.{◌≡◌, [], take, filter_map}
use Rattle.lft_model.specs.Presence.{given, min_delay, scheduled}
use Rattle.lft_model.proofs.slow.actions.action_value.Given as goal

abbrev pub invariant-loop-place : goal.invariant-loop-place
invariant-loop-place l = filter_map (scheduled l.tag l.action (min_delay l.plan.program l.action)) (take l.place l.rows) ≡ []

abbrev pub invariant-loop-place-2 : goal.invariant-loop-place-2
invariant-loop-place-2 l = record { rows : filter_map (scheduled l.tag l.action (min_delay l.plan.program l.action)) l.rows ≡ []; events : filter_map (given l.tag l.action) (take l.place l.events) ≡ [] }
