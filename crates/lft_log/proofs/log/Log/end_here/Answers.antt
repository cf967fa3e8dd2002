use Rattle.lft_log.proofs.log.Log.end_here.Goals as goal

pub returns-then-is_empty : goal.returns-then-is_empty
returns-then-is_empty c = λ base until bytes is. c.end.ensures base until bytes is c.requires.begun

pub returns-else-is_empty : goal.returns-else-is_empty
returns-else-is_empty c = λ base until bytes is. c.end_cut.ensures base until c.args.whole bytes is c.requires.begun
