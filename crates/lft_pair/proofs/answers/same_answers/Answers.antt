use Rattle.std.proofs.Common.{◌≡◌, rules}
use Rattle.lft_model.specs.Runs.{request_of}
use Rattle.lft_pair.proofs.Answering.{all_same}
use Rattle.lft_pair.proofs.answers.same_answers.Goals as goal

pub returns : goal.returns
returns c =
    let stops : request_of c.args.mine.now ≡ request_of c.args.theirs.now = search rules in
    all_same c.args.mine.now c.args.theirs.now c.in_ok-scheduled.scheduled stops (c.in_ok-written.ensures.0 c.if-not-written.false) c.in_ok-scheduled.ensures
