use Rattle.lft_rows.specs.{Presence.Traces.LeastTag, inner.Presence.Clashes.PortsClash}
use Rattle.lft_rows.proofs.presence.clashes.ports_clash.Given as goal

abbrev pub invariant-loop-port : goal.invariant-loop-port
invariant-loop-port l = LeastTag (PortsClash l.plan l.rows l.port) l.least
