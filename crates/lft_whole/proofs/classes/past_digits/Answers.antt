use Rattle.std.proofs.Common.{sym}
use Rattle.lft_lists.specs.Bytes.{is_digit}
use Rattle.lft_whole.proofs.Searches.{run_is, run_more}
use Rattle.lft_whole.proofs.classes.past_digits.Goals as goal

pub returns-clause-is : goal.returns-clause-is
returns-clause-is c = sym (run_is is_digit c.args.text.now c.args.from c.digits_end.result c.digits_end.ensures)

pub returns-clause-some : goal.returns-clause-some
returns-clause-some c = λ h. run_more is_digit c.args.text.now c.args.from c.digits_end.result h c.digits_end.ensures
