use Rattle.lft_log.proofs.Ends.{byte_there}
use Rattle.lft_log.proofs.lines.first_quote.Goals as goal

pub returns-in-Some-clause-quote : goal.returns-in-Some-clause-quote
returns-in-Some-clause-quote c = λ l. byte_there c.args.lines.now 34 c.in-Some.place l c.in-Some.ensures.1
