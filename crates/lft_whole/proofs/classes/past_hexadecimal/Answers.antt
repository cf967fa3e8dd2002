use Rattle.std.proofs.Common.{sym}
use Rattle.lft_whole.{specs.Forms.is_hexadecimal, proofs.Searches.run_is}
use Rattle.lft_whole.proofs.classes.past_hexadecimal.Goals as goal

pub returns-clause-is : goal.returns-clause-is
returns-clause-is c = sym (run_is is_hexadecimal c.args.text.now c.args.from c.hexadecimal_end.result c.hexadecimal_end.ensures)
