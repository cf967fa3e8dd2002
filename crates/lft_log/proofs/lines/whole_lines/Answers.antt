use Rattle.lft_log.proofs.Ends.{behind_last, none_ends, up_to_last}
use Rattle.lft_log.proofs.lines.whole_lines.Goals as goal

pub returns-in-Some-clause-lines : goal.returns-in-Some-clause-lines
returns-in-Some-clause-lines c = up_to_last c.args.text.now c.in-Some.place c.in-Some.ensures

pub returns-in-Some-clause-rest : goal.returns-in-Some-clause-rest
returns-in-Some-clause-rest c = behind_last c.args.text.now c.in-Some.place c.in-Some.ensures

pub returns-in-None-clause-rest : goal.returns-in-None-clause-rest
returns-in-None-clause-rest c = none_ends c.args.text.now c.in-None.ensures
