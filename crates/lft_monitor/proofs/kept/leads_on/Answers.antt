use Rattle.std.proofs.Common.{subst}
use Rattle.std.proofs.lemmas.Bool.{not-false}
use Rattle.lft_tag.specs.{declared.Tag.Tag, Tags.Before}
use Rattle.lft_monitor.proofs.kept.leads_on.Goals as goal

pub returns : goal.returns
returns c = λ late. (c.item_at-furthest.result, c.item_at-furthest.ensures, subst (λ (g : Tag). Before g c.args.low) c.plus.ensures.folded (c.is_before.ensures.0 (not-false c.is_before.result late)))
