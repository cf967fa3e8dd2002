use Rattle.std.proofs.Common.{◌≡◌}
use Rattle.lft_model.proofs.PortEvents.{last_before}
use Rattle.lft_model.proofs.slow.ports.port_value.Given as goal

abbrev pub invariant-loop-place : goal.invariant-loop-place
invariant-loop-place l = l.value ≡ last_before l.tag l.port l.rows l.place
