use Rattle.std.proofs.Common.{◌+◌, sym, ◌∙◌}
use Rattle.lft_whole.proofs.Escapes.{quotes_again}
use Rattle.lft_whole.proofs.quotes.past_one.Goals as goal

pub returns-in-Err-clause-nothing : goal.returns-in-Err-clause-nothing
returns-in-Err-clause-nothing c = quotes_again c.args.text.now (c.args.at + 1) c.in-Err.end (sym c.past_in_line.ensures.is ∙ c.in-Err.is)
