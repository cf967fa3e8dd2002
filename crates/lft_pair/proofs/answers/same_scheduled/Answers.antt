use Rattle.std.proofs.Common.{rules}
use Rattle.lft_pair.proofs.Answering.{pairs_decide, scheduled_decides}
use Rattle.lft_pair.proofs.answers.same_scheduled.Goals as goal

pub returns : goal.returns
returns c =
    let first = c.in_ok-first.first in
    let second = c.in_ok-second.second in
    scheduled_decides c.args.mine.now c.args.theirs.now first second c.eq.result c.in_ok-first.ensures c.in_ok-second.ensures (pairs_decide first second c.eq.result c.eq.ensures (λ a b. search rules))
