use Rattle.lft_same.proofs.Taken.{lowered_law}
use Rattle.lft_same.proofs.law_of_lowering.Goals as goal

pub returns : goal.returns
returns c = lowered_law c.args.files.now
