use Rattle.std.proofs.Common.{None, Some}
use Rattle.std.proofs.lemmas.{Bool.Decides.Decides-eqb, Slice.Eq.strip_prefix_is}
use Rattle.lft_log.{specs.Logs.{header_words, mark}, proofs.Heads.{words_alone, words_marked}}
use Rattle.lft_log.proofs.lines.behind_words.Goals as goal

pub returns-in-Some : goal.returns-in-Some
returns-in-Some c = words_marked c.args.text.now c.in-Some.text.now c.strip_prefix-in-Some.result (strip_prefix_is Decides-eqb c.args.text.now mark (Some c.in-Some.text) c.in-Some.ensures.cases) (strip_prefix_is Decides-eqb c.in-Some.text.now header_words c.strip_prefix-in-Some.result c.strip_prefix-in-Some.ensures.cases)

pub returns-in-None : goal.returns-in-None
returns-in-None c = words_alone c.args.text.now c.strip_prefix-in-None.result (strip_prefix_is Decides-eqb c.args.text.now mark None c.in-None.ensures.cases) (strip_prefix_is Decides-eqb c.args.text.now header_words c.strip_prefix-in-None.result c.strip_prefix-in-None.ensures.cases)
