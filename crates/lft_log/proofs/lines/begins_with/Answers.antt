use Rattle.std.proofs.Common.{drop, length}
use Rattle.std.proofs.lemmas.{Bool.Decides.Decides-eqb, Slice.Eq.starts_is}
use Rattle.lft_log.proofs.lines.begins_with.Goals as goal

pub returns : goal.returns
returns c = let s = starts_is Decides-eqb c.args.line.now c.args.word.now c.starts_with.result c.starts_with.ensures.value in ((λ yes. (drop (length c.args.word.now) c.args.line.now, s.0 yes)), λ b. s.1 b.0 b.1)
