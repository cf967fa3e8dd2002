use Rattle.lft_model.proofs.PortEvents.{IsTagBefore}
use Rattle.lft_model.proofs.slow.ports.port_clashes.Given as goal

abbrev pub invariant-loop-place : goal.invariant-loop-place
invariant-loop-place l = IsTagBefore l.rows l.tag l.port l.place l.first
