use Rattle.std.proofs.Common.{sym}
use Rattle.lft_lists.specs.Bytes.{is_in_line}
use Rattle.lft_whole.proofs.Searches.{run_is}
use Rattle.lft_whole.proofs.classes.past_line.Goals as goal

pub returns-clause-is : goal.returns-clause-is
returns-clause-is c = sym (run_is is_in_line c.args.text.now c.args.from c.line_end.result c.line_end.ensures)
