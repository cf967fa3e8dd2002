use Rattle.std.proofs.Common.{◌++◌, List, Option, Some, ℕ, take, ap, ◌∙◌, subst}
use Rattle.lft_races.{specs.Races.{IsFirstRace, IsRace, IsRaceBefore}, proofs.Standing.stand_same}
use Rattle.lft_facts.{specs.declared.facts.Fact.Fact, proofs.FirstRace.ends_behind}
use Rattle.lft_facts.proofs.race.add_race.Goals as goal

pub race_facts-requires-clause-race : goal.race_facts-requires-clause-race
race_facts-requires-clause-race c =
    let found : IsRaceBefore c.args.plan.now c.args.rows.now c.args.breach (Some c.in-Some.start) = subst (λ (o : Option ℕ). IsRaceBefore c.args.plan.now c.args.rows.now c.args.breach o) c.in-Some.is c.in_ok-race.ensures in
    subst (λ n. IsRace c.args.plan.now.program (take n c.args.rows.now) c.in-Some.start) (stand_same c.args.rows.now c.args.breach found.0 c.rows_before-before.result found.1 c.rows_before-before.ensures) found.2.0

pub returns-clause-adds : goal.returns-clause-adds
returns-clause-adds c = record {
  more = c.in_ok-facts_of_race.facts_of_race.items;
  is = c.in_ok-extend_from_slice.ensures.items ∙ ap (λ (fs : List Fact). c.args.facts.now.items ++ fs) c.as_slice.ensures.value;
  holds = c.in_ok-facts_of_race.ensures.holds;
  own = c.in_ok-facts_of_race.ensures.own c.args.breach c.rows_before-before.ensures;
}

pub returns-clause-race : goal.returns-clause-race
returns-clause-race c l =
    let found : IsRaceBefore c.args.plan.now c.args.rows.now c.args.breach (Some c.in-Some.start) = subst (λ (o : Option ℕ). IsRaceBefore c.args.plan.now c.args.rows.now c.args.breach o) c.in-Some.is c.in_ok-race.ensures in
    let n = c.rows_before-before.result in
    let first = subst (λ n. IsFirstRace c.args.plan.now.program (take n c.args.rows.now) (Some c.in-Some.start)) (stand_same c.args.rows.now c.args.breach found.0 n found.1 c.rows_before-before.ensures) found.2 in
    (n, Some c.in-Some.start, c.rows_before-before.ensures, first, λ later. ends_behind c.args.plan.now.program (take n c.args.rows.now) c.args.facts.now.items c.in_ok-facts_of_race.facts_of_race.items c.extend_from_slice.new.self.items c.in-Some.start (c.in_ok-extend_from_slice.ensures.items ∙ ap (λ (fs : List Fact). c.args.facts.now.items ++ fs) c.as_slice.ensures.value) (c.in_ok-facts_of_race.ensures.race later))
