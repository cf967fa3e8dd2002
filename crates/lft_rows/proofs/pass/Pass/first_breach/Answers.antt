use Rattle.std.proofs.Common.{subst}
use Rattle.lft_ir.specs.Parts.{Parts}
use Rattle.lft_rows.{specs.inner.Passes.IsKnown, proofs.Whole.{unended_first, early_first, none_first}}
use Rattle.lft_model.proofs.Places.{slice_get_within}
use Rattle.lft_rows.proofs.pass.Pass.first_breach.Goals as goal

pub returns-in-Some-clause-first : goal.returns-in-Some-clause-first
returns-in-Some-clause-first c = unended_first c.args.stop c.args.plan.now c.args.rows.now c.in_ok-early.early.place c.in-Some.start c.breach.result c.in_ok-early.ensures.early.kept c.in-Some.ensures (record { rule = c.breach.ensures.rule; row = c.breach.ensures.row; tag = c.breach.ensures.tag; reaction = c.breach.ensures.reaction })

pub breach-requires-in-Some-rule-clause-place : goal.breach-requires-in-Some-rule-clause-place
breach-requires-in-Some-rule-clause-place c = let r = rw c.in-Some-rule.is at c.in_ok-early.ensures.early.rule in slice_get_within c.args.rows.now c.in_ok-early.early.place r.0 r.1

pub returns-in-Some-rule-clause-first : goal.returns-in-Some-rule-clause-first
returns-in-Some-rule-clause-first c = early_first c.args.stop c.args.plan.now c.args.rows.now c.in_ok-early.early.place c.in-Some-rule.rule c.breach-in-Some-rule.result c.in_ok-early.ensures.early.kept c.in-None.ensures (rw c.in-Some-rule.is at c.in_ok-early.ensures.early.rule) (record { rule = c.breach-in-Some-rule.ensures.rule; row = c.breach-in-Some-rule.ensures.row; tag = c.breach-in-Some-rule.ensures.tag; reaction = c.breach-in-Some-rule.ensures.reaction })

pub returns-in-None-rule-clause-first : goal.returns-in-None-rule-clause-first
returns-in-None-rule-clause-first c = none_first c.args.stop c.args.plan.now c.args.rows.now c.in_ok-early.early.place (rw c.in-None-rule.is at c.in_ok-early.ensures.early.rule) c.in_ok-early.ensures.early.kept c.in-None.ensures

pub early_rows-requires-clause-known : goal.early_rows-requires-clause-known
early_rows-requires-clause-known c = subst (λ (p : Parts). IsKnown p c.args.rows.now 0 c.clear.new.self) c.program.ensures.value (c.in_ok-clear.ensures c.args.rows.now)
