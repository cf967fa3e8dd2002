use Rattle.lft_stream.proofs.Keeping.{meet_nowhere}
use Rattle.lft_stream.proofs.acceptor.Acceptor.is_apart.Goals as goal

pub returns : goal.returns
returns c = λ apart plan t low is before. meet_nowhere plan t c.args.self.now.stream low is.stands (c.is_apart.ensures apart) before
