use Rattle.std.proofs.Common.{rules}
use Rattle.std.proofs.lemmas.Bool.Decides.{Decides-eqb}
use Rattle.lft_pair.proofs.Answering.{entries_decide, written_decides}
use Rattle.lft_pair.proofs.answers.same_written.Goals as goal

pub returns : goal.returns
returns c =
    let first = c.in_ok-first.first in
    let second = c.in_ok-second.second in
    written_decides c.args.mine.now c.args.theirs.now first second c.eq.result c.in_ok-first.ensures c.in_ok-second.ensures (entries_decide first second c.eq.result c.eq.ensures Decides-eqb (λ a b. search rules))
