use Rattle.lft_monitor.proofs.Following.{judged_so_far}
use Rattle.lft_monitor.proofs.follower.Follower.reach.Goals as goal

pub returns : goal.returns
returns c = λ t is. judged_so_far c.args.plan.now t c.args.self.now is
