use Rattle.std.proofs.Common.{subst}
use Rattle.lft_rows.specs.Presence.Traces.{TraceParts}
use Rattle.lft_check.specs.ByTag.Slices.{IsGap}
use Rattle.lft_slices.proofs.cuts.Cut.gap.Goals as goal

pub returns : goal.returns
returns c = subst (λ (z : TraceParts). IsGap z c.gap.result) c.self.view_is c.gap.ensures
