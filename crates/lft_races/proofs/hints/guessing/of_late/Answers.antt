use Rattle.std.proofs.Common.{◌≡◌, ◌+◌, ℕ, inl, inr, ◌<◌, List, Option, length, subst, arith}
use Rattle.lft_ir.specs.declared.steps.row.Row.{Row}
use Rattle.lft_model.specs.{declared.breach.Breach.Breach, Plans.PlanParts}
use Rattle.lft_races.{specs.{Races.{FirstSoFar, IsRaceBefore}, Hints.Hints.{HasRace, IsOfOpen}}, proofs.Standing.{row_of_rule, no_race_before}}
use Rattle.lft_races.proofs.hints.guessing.of_late.Goals as goal

-- rule 1 is of a row
has_row : (plan : PlanParts) (t : List Row) (b : Breach) → FirstSoFar plan t b → b.rule ≡ 1 → (i : ℕ) × (b.row ≡ i + 2) × (i < length t)
has_row plan t b first rule = row_of_rule plan t b first (omega arith)

pub is_of_start-requires : goal.is_of_start-requires
is_of_start-requires c = has_row c.args.plan.now c.args.rows.now c.args.breach c.requires.first c.requires.rule

pub is_of_open-requires : goal.is_of_open-requires
is_of_open-requires c = has_row c.args.plan.now c.args.rows.now c.args.breach c.requires.first c.requires.rule

pub of_recorder-requires-clause-row : goal.of_recorder-requires-clause-row
of_recorder-requires-clause-row c = has_row c.args.plan.now c.args.rows.now c.args.breach c.requires.first c.requires.rule

pub of_recorder-requires-2-clause-row : goal.of_recorder-requires-2-clause-row
of_recorder-requires-2-clause-row c = has_row c.args.plan.now c.args.rows.now c.args.breach c.requires.first c.requires.rule

pub returns-then-is_of_start-clause-some : goal.returns-then-is_of_start-clause-some
returns-then-is_of_start-clause-some c = c.of_recorder.ensures c.args.plan.now (inl (c.is_of_start.ensures.0 c.if-is_of_start.true))

pub returns-in-Some-clause-some : goal.returns-in-Some-clause-some
returns-in-Some-clause-some c = (inl (c.requires.rule, (λ s. let y = c.is_of_start.ensures.1 s in let n = c.if-is_of_start.false in absurd (cc)), (λ s. let y = c.is_of_open.ensures.1 s in let n = c.if-is_of_open.false in absurd (cc))), (c.in-Some.field-0, subst (λ (o : Option ℕ). IsRaceBefore c.args.plan.now c.args.rows.now c.args.breach o) c.in-Some.is c.in_ok-race.ensures))

pub returns-clause-some : goal.returns-clause-some
returns-clause-some c = c.of_recorder-2.ensures c.args.plan.now (inr ((λ (s : IsOfOpen c.args.rows.now c.args.breach). let y = c.is_of_open.ensures.1 s in let n = c.if-is_of_open.false in absurd (cc)), (λ (race : HasRace c.args.plan.now c.args.rows.now c.args.breach). no_race_before c.args.plan.now c.args.rows.now c.args.breach (subst (λ (o : Option ℕ). IsRaceBefore c.args.plan.now c.args.rows.now c.args.breach o) c.in_default.is c.in_ok-race.ensures) race.0 race.1)))
