use Rattle.lft_rows.proofs.PresenceLemmas.Made.{causes_sorted}
use Rattle.lft_rows.proofs.presence.causing.causes_of.Goals as goal

pub returns : goal.returns
returns c = causes_sorted c.args.plan.now c.args.rows.now c.program.ensures.sound c.requires c.add_events.new.causes.items c.sort_unstable.new.self.items c.in_ok-add_events.ensures c.sort_unstable.ensures.permutation c.sort_unstable.ensures.sorted
