use Rattle.std.proofs.Common.{List, Some, refl, subst}
use Rattle.lft_ir.specs.declared.steps.row.Row.{Row}
use Rattle.lft_check.specs.inner.Verdicts.{LeastOf, BreachFrom}
use Rattle.lft_monitor.proofs.{Behind.all_fit, First.first_before}
use Rattle.lft_monitor.proofs.past.Past.first_breach.Goals as goal

pub first_from-requires : goal.first_from-requires
first_from-requires c = record {
  fit = all_fit c.args.plan.now c.requires.stands.0 c.args.rows.now c.in_ok-all.all c.args.self.now c.requires.stands.1 c.requires.fit c.in_ok-all.ensures.0 c.in_ok-all.ensures.1;
  low = c.requires.stands.1.near;
}

pub returns-then-is_before : goal.returns-then-is_before
returns-then-is_before c = λ t u is later.
    let plan = c.args.plan.now in
    let p = c.args.self.now in
    let breach = c.in-Ok-Some.breach in
    let found = subst (λ (x : List Row). LeastOf (BreachFrom plan x p.low) (Some breach)) c.in_ok-all.ensures.0 (rw c.in-Ok-Some.field-0-is at c.in-Ok-Some.ensures.least) in
    first_before plan t c.args.rows.now u p is c.args.high (c.if-not-are_from.ensures refl) later breach found (c.if-is_before.ensures.0 refl)
