use Rattle.std.proofs.Common.{refl}
use Rattle.lft_log.proofs.Asking.{asked_first}
use Rattle.lft_log.proofs.asked.Asked.new.Goals as goal

pub returns-clause-asked : goal.returns-clause-asked
returns-clause-asked c = asked_first _ refl
