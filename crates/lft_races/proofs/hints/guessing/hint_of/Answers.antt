use Rattle.std.proofs.Common.{List, IfOk, IfSome, IfNone, sym, subst}
use Rattle.lft_ir.specs.declared.steps.row.Row.{Row}
use Rattle.lft_races.specs.{Races.FirstSoFar, declared.hints.hint.Hint.Hint as TheHint, Hints.Hints.IsHint}
use Rattle.lft_races.proofs.hints.guessing.hint_of.Goals as goal

pub of_late-requires-clause-first : goal.of_late-requires-clause-first
of_late-requires-clause-first c = subst (λ (t : List Row). FirstSoFar c.args.plan.now t c.args.breach) (sym c.as_slice-rows.ensures) c.requires.first

pub of_order-requires-clause-first : goal.of_order-requires-clause-first
of_order-requires-clause-first c = subst (λ (t : List Row). FirstSoFar c.args.plan.now t c.args.breach) (sym c.as_slice-rows.ensures) c.requires.first

pub returns-in-1-clause-some : goal.returns-in-1-clause-some
returns-in-1-clause-some c = subst (λ (t : List Row). IfOk c.of_late.result (λ hint. IfSome hint (IsHint c.args.plan.now t c.args.breach))) c.as_slice-rows.ensures c.of_late.ensures.some

pub returns-in-1-clause-none : goal.returns-in-1-clause-none
returns-in-1-clause-none c = subst (λ (t : List Row). IfOk c.of_late.result (λ hint. IfNone hint ((other : TheHint) → IsHint c.args.plan.now t c.args.breach other → ⊥))) c.as_slice-rows.ensures c.of_late.ensures.none

pub returns-in-3-clause-some : goal.returns-in-3-clause-some
returns-in-3-clause-some c = subst (λ (t : List Row). IfOk c.of_order.result (λ hint. IfSome hint (IsHint c.args.plan.now t c.args.breach))) c.as_slice-rows.ensures c.of_order.ensures.some

pub returns-in-3-clause-none : goal.returns-in-3-clause-none
returns-in-3-clause-none c = subst (λ (t : List Row). IfOk c.of_order.result (λ hint. IfNone hint ((other : TheHint) → IsHint c.args.plan.now t c.args.breach other → ⊥))) c.as_slice-rows.ensures c.of_order.ensures.none

pub returns-in-8-clause-some : goal.returns-in-8-clause-some
returns-in-8-clause-some c = subst (λ (t : List Row). IfOk c.of_run.result (λ hint. IfSome hint (IsHint c.args.plan.now t c.args.breach))) c.as_slice-rows.ensures c.of_run.ensures.some

pub returns-in-8-clause-none : goal.returns-in-8-clause-none
returns-in-8-clause-none c = subst (λ (t : List Row). IfOk c.of_run.result (λ hint. IfNone hint ((other : TheHint) → IsHint c.args.plan.now t c.args.breach other → ⊥))) c.as_slice-rows.ensures c.of_run.ensures.none

pub returns-in_default-clause-some : goal.returns-in_default-clause-some
returns-in_default-clause-some c = subst (λ (t : List Row). IfSome c.of_other_rules.result (IsHint c.args.plan.now t c.args.breach)) c.as_slice-rows.ensures c.of_other_rules.ensures.some

pub returns-in_default-clause-none : goal.returns-in_default-clause-none
returns-in_default-clause-none c = subst (λ (t : List Row). IfNone c.of_other_rules.result ((other : TheHint) → IsHint c.args.plan.now t c.args.breach other → ⊥)) c.as_slice-rows.ensures c.of_other_rules.ensures.none
