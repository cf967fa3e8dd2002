use Rattle.std.proofs.Common.{◌≡◌, take, filter_map}
use Rattle.lft_model.specs.Presence.{value_scheduled}
use Rattle.lft_rows.proofs.answers.answers.all_scheduled.Given as goal

abbrev pub invariant-loop-place : goal.invariant-loop-place
invariant-loop-place l = l.list.items ≡ filter_map (value_scheduled l.action) (take l.place l.steps)
