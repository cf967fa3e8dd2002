use Rattle.lft_races.proofs.hints.guessing.of_other_rules.Goals as goal

pub returns-in-5-clause-some : goal.returns-in-5-clause-some
returns-in-5-clause-some c = c.of_unended.ensures.some c.args.plan.now
