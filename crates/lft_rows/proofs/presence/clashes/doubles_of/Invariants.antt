use Rattle.lft_rows.specs.inner.Presence.Clashes.{AreDoubles}
use Rattle.lft_rows.proofs.presence.clashes.doubles_of.Given as goal

abbrev pub invariant-loop-port : goal.invariant-loop-port
invariant-loop-port l = AreDoubles l.causes l.port l.doubles.items
