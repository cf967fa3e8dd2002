use Rattle.std.proofs.Common.{◌-◌, length, take}
use Rattle.std.proofs.lemmas.{Bool.Decides.Decides-eqb, Slice.Eq.ends_is}
use Rattle.lft_log.proofs.lines.ends_with.Goals as goal

pub returns : goal.returns
returns c = let s = ends_is Decides-eqb c.args.line.now c.args.word.now c.ends_with.result c.ends_with.ensures.value in ((λ yes. (take (length c.args.line.now - length c.args.word.now) c.args.line.now, s.0 yes)), λ b. s.1 b.0 b.1)
