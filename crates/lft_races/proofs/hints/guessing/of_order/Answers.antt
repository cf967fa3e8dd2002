use Rattle.std.proofs.Common.{ℕ, inr, Option, subst, arith}
use Rattle.lft_races.{specs.{Races.IsRaceBefore, Hints.Hints.HasRace}, proofs.Standing.{row_of_rule, no_race_before}}
use Rattle.lft_races.proofs.hints.guessing.of_order.Goals as goal

pub of_disorder-requires-clause-row : goal.of_disorder-requires-clause-row
of_disorder-requires-clause-row c = row_of_rule c.args.plan.now c.args.rows.now c.args.breach c.requires.first (let e = c.requires.rule in omega arith)

pub returns-in-Some-clause-some : goal.returns-in-Some-clause-some
returns-in-Some-clause-some c = (inr c.requires.rule, (c.in-Some.field-0, subst (λ (o : Option ℕ). IsRaceBefore c.args.plan.now c.args.rows.now c.args.breach o) c.in-Some.is c.in_ok-race.ensures))

pub returns-in-None-clause-some : goal.returns-in-None-clause-some
returns-in-None-clause-some c = c.of_disorder.ensures c.args.plan.now (λ (race : HasRace c.args.plan.now c.args.rows.now c.args.breach). no_race_before c.args.plan.now c.args.rows.now c.args.breach (subst (λ (o : Option ℕ). IsRaceBefore c.args.plan.now c.args.rows.now c.args.breach o) c.in-None.is c.in_ok-race.ensures) race.0 race.1)
