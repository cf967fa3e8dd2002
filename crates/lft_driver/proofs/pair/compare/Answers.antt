use Rattle.std.proofs.Common.{subst}
use Rattle.lft_pair.specs.{declared.comparison.Pair.Pair, Pairs.IsComparison}
use Rattle.lft_driver.proofs.pair.compare.Goals as goal

pub returns-in-Same-clause-right : goal.returns-in-Same-clause-right
returns-in-Same-clause-right c = (c.requires.accepted, c.requires.counted, subst (λ (p : Pair). IsComparison c.args.plan.now c.args.first.now c.args.second.now p) c.in-Same.is c.in-Ok.ensures)

pub returns-in-Differ-clause-right : goal.returns-in-Differ-clause-right
returns-in-Differ-clause-right c = (c.requires.accepted, subst (λ (p : Pair). IsComparison c.args.plan.now c.args.first.now c.args.second.now p) c.in-Differ.is c.in-Ok.ensures)
