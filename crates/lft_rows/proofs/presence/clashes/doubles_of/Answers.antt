use Rattle.std.proofs.Common.{◌+◌, List, Option, sym, subst}
use Rattle.lft_rows.{specs.{declared.presence.causes.EventCause.EventCause, inner.Presence.Clashes.AreDoubles}, proofs.PresenceLemmas.Collisions.doubles_more}
use Rattle.lft_rows.proofs.presence.clashes.doubles_of.Goals as goal

pub loop-port-preserved : goal.loop-port-preserved
loop-port-preserved c = subst (λ (xs : List (Option EventCause)). AreDoubles c.args.causes.now (c.loop-port.port + 1) xs) (sym c.in_ok-push.ensures.items) (doubles_more c.args.causes.now c.loop-port.port c.loop-port.doubles.items c.first_pair.result c.first_pair.ensures c.loop-port.invariant)
