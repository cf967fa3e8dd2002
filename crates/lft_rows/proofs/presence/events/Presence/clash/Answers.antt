use Rattle.std.proofs.Common.{subst}
use Rattle.lft_rows.specs.Presence.{Traces.TraceParts, Clashes.IsClash}
use Rattle.lft_rows.proofs.presence.events.Presence.clash.Goals as goal

pub returns : goal.returns
returns c = subst (λ (z : TraceParts). IsClash z c.self.inside.clash) c.self.view_is c.self.invariant.clash_is
