use Rattle.std.proofs.lemmas.Result.{IfOk-weaker}
use Rattle.lft_log.{specs.Logs.rows, proofs.Finishing.tells_plan}
use Rattle.lft_log.proofs.log.Log.still_open.Goals as goal

pub returns : goal.returns
returns c = λ base until bytes is.
    let plan = c.args.plan.now in
    let rest = c.args.self.now.rest.items in
    let t = rows is.kept.lines in
    IfOk-weaker c.open_runs.result _ _ (λ runs are. (plan, t, rest, tells_plan base plan until bytes rest rest c.args.self.now is.kept (is.kept.begun c.requires.begun), is.open_line, are t is.kept.follower.0)) c.open_runs.ensures
