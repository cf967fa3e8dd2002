use Rattle.std.proofs.Common.{refl}
use Rattle.lft_monitor.proofs.Following.{new_follower}
use Rattle.lft_monitor.proofs.follower.Follower.new.Goals as goal

pub returns : goal.returns
returns c = (new_follower c.args.plan.now _ c.in_ok-new.ensures c.in_ok-new-2.ensures refl, c.new-3.ensures.items)
