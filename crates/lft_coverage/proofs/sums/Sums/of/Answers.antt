use Rattle.std.proofs.Common.{length}
use Rattle.lft_coverage.proofs.Together.{met_together}
use Rattle.lft_coverage.proofs.sums.Sums.of.Goals as goal

pub returns-clause-together : goal.returns-clause-together
returns-clause-together c = λ t i so. met_together c.args.cover.now.overlaps t (length c.args.program.now.reactions) i c.met_pairs.result so c.met_pairs.ensures
