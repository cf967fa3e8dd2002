use Rattle.std.proofs.Common.{◌≡◌, None, take, filter_map}
use Rattle.std.specs.List.{last_or}
use Rattle.lft_model.specs.Presence.{value_written}
use Rattle.lft_rows.proofs.answers.answers.last_written.Given as goal

abbrev pub invariant-loop-place : goal.invariant-loop-place
invariant-loop-place l = l.last ≡ last_or None (filter_map (value_written l.port) (take l.place l.steps))
