use Rattle.lft_log.proofs.Holding.{log_is_table}
use Rattle.lft_log.proofs.laws.law_log.Goals as goal

pub returns : goal.returns
returns c = log_is_table c.args.program.now
