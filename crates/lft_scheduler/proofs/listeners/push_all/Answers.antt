use Rattle.lft_scheduler.proofs.Filling.{pushed_more}
use Rattle.lft_scheduler.proofs.listeners.push_all.Goals as goal

pub triggers-preserved : goal.triggers-preserved
triggers-preserved c = pushed_more c.args.triggers.now c.triggers.place c.args.reaction c.item_at.result c.args.lists.now c.triggers.lists c.push.new.self c.item_at.ensures c.triggers.invariant c.in_ok-push.ensures
