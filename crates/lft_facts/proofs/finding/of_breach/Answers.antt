use Rattle.lft_races.proofs.Standing.{first_of_tag, first_of_row}
use Rattle.lft_facts.proofs.finding.of_breach.Goals as goal

pub at_tag-requires-clause-first : goal.at_tag-requires-clause-first
at_tag-requires-clause-first c = first_of_tag c.args.plan.now c.args.rows.now c.args.breach c.requires.first c.if-breach-eq0.true

pub of_row-requires-clause-breach : goal.of_row-requires-clause-breach
of_row-requires-clause-breach c = first_of_row c.args.plan.now c.args.rows.now c.args.breach c.requires.first c.if-breach-eq0.false
