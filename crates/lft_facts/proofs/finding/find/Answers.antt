use Rattle.std.proofs.Common.{List, sym, subst}
use Rattle.lft_ir.specs.declared.steps.row.Row.{Row}
use Rattle.lft_races.specs.Races.{FirstSoFar}
use Rattle.lft_facts.specs.{declared.facts.Fact.Fact, Facts.AreFacts, Enough.{Proves, AreOwn, TellsRace}}
use Rattle.lft_facts.proofs.{Added.{adds_holds, adds_own}, FirstRace.adds_proves}
use Rattle.lft_facts.proofs.finding.find.Goals as goal

pub of_breach-requires-clause-first : goal.of_breach-requires-clause-first
of_breach-requires-clause-first c = subst (λ (t : List Row). FirstSoFar c.args.plan.now t c.args.breach) (sym c.as_slice-rows.ensures) c.requires.first

pub add_race-requires-clause-first : goal.add_race-requires-clause-first
add_race-requires-clause-first c = subst (λ (t : List Row). FirstSoFar c.args.plan.now t c.args.breach) (sym c.as_slice-rows.ensures) c.requires.first

pub returns-clause-holds : goal.returns-clause-holds
returns-clause-holds c = subst (λ (fs : List Fact). AreFacts c.args.plan.now c.args.rows.now fs) (sym c.from_vec.ensures) (subst (λ (t : List Row). AreFacts c.args.plan.now t c.add_race.new.facts.items) c.as_slice-rows.ensures (adds_holds c.args.plan.now c.as_slice-rows.result.now c.in_ok-facts.facts.items c.add_race.new.facts.items c.in_ok-add_race.ensures.adds c.in_ok-facts.ensures.holds))

pub returns-clause-enough : goal.returns-clause-enough
returns-clause-enough c = subst (λ (fs : List Fact). Proves fs c.args.breach) (sym c.from_vec.ensures) (adds_proves c.args.plan.now c.as_slice-rows.result.now c.in_ok-facts.facts.items c.add_race.new.facts.items c.args.breach c.in_ok-add_race.ensures.adds c.in_ok-facts.ensures.enough)

pub returns-clause-own : goal.returns-clause-own
returns-clause-own c = subst (λ (fs : List Fact). AreOwn c.args.breach fs) (sym c.from_vec.ensures) (adds_own c.args.plan.now c.as_slice-rows.result.now c.in_ok-facts.facts.items c.add_race.new.facts.items c.in_ok-add_race.ensures.adds c.in_ok-facts.ensures.own)

pub returns-clause-race : goal.returns-clause-race
returns-clause-race c = subst (λ (fs : List Fact). TellsRace c.args.plan.now c.args.rows.now c.args.breach fs) (sym c.from_vec.ensures) (subst (λ (t : List Row). TellsRace c.args.plan.now t c.args.breach c.add_race.new.facts.items) c.as_slice-rows.ensures c.in_ok-add_race.ensures.race)
