use Rattle.std.proofs.Common.{subst}
use Rattle.lft_rows.specs.Presence.{Clashes.IsClash, Traces.TraceParts}
use Rattle.lft_check.proofs.by_tag.sliced.Sliced.clash.Goals as goal

pub returns : goal.returns
returns c = subst (λ (z : TraceParts). IsClash z c.clash.result) c.presence.ensures c.clash.ensures
