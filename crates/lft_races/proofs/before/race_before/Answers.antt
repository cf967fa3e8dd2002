use Rattle.lft_races.proofs.Standing.{rises_before, runs_before}
use Rattle.lft_races.proofs.before.race_before.Goals as goal

pub first_race-requires-clause-rises : goal.first_race-requires-clause-rises
first_race-requires-clause-rises c = rises_before c.args.plan.now c.args.rows.now c.args.breach c.requires.first c.rows_before-before.result c.rows_before-before.ensures

pub first_race-requires-clause-runs : goal.first_race-requires-clause-runs
first_race-requires-clause-runs c = runs_before c.args.plan.now c.args.rows.now c.args.breach c.requires.first c.rows_before-before.result c.rows_before-before.ensures
