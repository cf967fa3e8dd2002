use Rattle.lft_facts.proofs.Causes.{written_gives}
use Rattle.lft_facts.proofs.cause.port_cause.Goals as goal

pub returns-in-Some-clause-gives : goal.returns-in-Some-clause-gives
returns-in-Some-clause-gives c = written_gives c.args.tag c.args.port c.in-Some.row
