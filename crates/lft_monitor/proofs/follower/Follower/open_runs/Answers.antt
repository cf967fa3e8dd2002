use Rattle.std.proofs.lemmas.Result.{IfOk-weaker}
use Rattle.lft_monitor.proofs.{Opened.open_runs, Onward.held_is}
use Rattle.lft_monitor.proofs.follower.Follower.open_runs.Goals as goal

pub returns : goal.returns
returns c = IfOk-weaker c.open_among.result _ _ (λ runs at_hand t is. open_runs c.args.plan.now t c.args.self.now is _ (held_is c.args.self.now c.as_slice.result.now c.as_slice.ensures.value) runs.items at_hand) c.open_among.ensures
