use Rattle.std.proofs.Common.{◌≡◌, string_bytes, subst}
use Rattle.lft_ir.specs.Parts.{Parts}
use Rattle.lft_pair.specs.Told.{told_contrasts}
use Rattle.lft_pair.proofs.contrasting.contrast.Goals as goal

pub returns : goal.returns
returns c = record { contrasts = c.in_ok-contrasts.contrasts; holds = c.in_ok-contrasts.ensures.holds; enough = c.in_ok-contrasts.ensures.enough; all = c.in_ok-contrasts.ensures.all; is_told = subst (λ (p : Parts). string_bytes c.in_ok-text.text ≡ told_contrasts p c.args.tag c.args.reaction c.in_ok-contrasts.contrasts) c.program.ensures.value c.in_ok-text.ensures }
