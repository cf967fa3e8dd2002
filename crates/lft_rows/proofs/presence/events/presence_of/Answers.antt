use Rattle.lft_rows.proofs.PresenceLemmas.Kept.{kept}
use Rattle.lft_rows.proofs.presence.events.presence_of.Goals as goal

pub from_parts-requires : goal.from_parts-requires
from_parts-requires c = kept c.args.plan.now c.args.rows.now c.args.stop c.in_ok-causes.causes.items c.in_ok-clash.clash c.keeps.ensures.sound c.requires.fit c.requires.stop c.in_ok-causes.ensures c.in_ok-clash.ensures
