use Rattle.lft_log.proofs.Odd.{words_there}
use Rattle.lft_log.proofs.lines.has_words.Goals as goal

pub returns : goal.returns
returns c = words_there c.args.line.now c.find.result c.is_some.result c.is_some.ensures c.find.ensures
