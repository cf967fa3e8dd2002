use Rattle.lft_log.proofs.Fronts.{lines_there}
use Rattle.lft_log.proofs.rows.lines_end.Goals as goal

pub returns-then-whole-gt0-clause-lines : goal.returns-then-whole-gt0-clause-lines
returns-then-whole-gt0-clause-lines c = lines_there c.args.text.now c.args.begin c.whole_lines-whole.result _ c.whole_lines-whole.ensures.within c.whole_lines-whole.ensures.lines
