use Rattle.lft_races.proofs.Standing.{ends_later}
use Rattle.lft_report.proofs.laws.law_race.Goals as goal

pub returns : goal.returns
returns c = λ t b n first stand. ends_later c.args.plan.now t b first n stand
