use Rattle.std.proofs.Common.{◌≡◌, ◌∙◌, List, sym, subst}
use Rattle.lft_ir.specs.declared.steps.row.Row.{Row}
use Rattle.lft_check.specs.declared.verdict.Verdict.TheVariants.{Broken}
use Rattle.lft_log.{specs.inner.Explain.Cuts.IsEarlyOf, proofs.ExplainLemmas.Early.{early_exact, early_not, later_of, by_verdict}}
use Rattle.lft_log.proofs.explain.first.is_first_so_far.Goals as goal

pub returns-in-Some : goal.returns-in-Some
returns-in-Some c =
    let plan = c.args.plan.now in
    let early = rw c.in-Some.is at (subst (λ (t : List Row). IsEarlyOf plan t c.in_ok-early.early) c.as_slice.ensures c.in_ok-early.ensures) in
    let exact = early_exact plan c.args.rows.now c.args.breach c.in-Some.first c.if-breach-lt5.true early in
    (λ yes. exact.0 (c.is_same.ensures.0 yes), λ first. c.is_same.ensures.1 (exact.1 first))

pub returns-in-None : goal.returns-in-None
returns-in-None c =
    let plan = c.args.plan.now in
    let none = rw c.in-None.is at (subst (λ (t : List Row). IsEarlyOf plan t c.in_ok-early.early) c.as_slice.ensures c.in_ok-early.ensures) in
    (λ no. absurd (cc), λ first. absurd (early_not plan c.args.rows.now c.args.breach c.if-breach-lt5.true none first))

pub returns-in-Broken : goal.returns-in-Broken
returns-in-Broken c =
    let exact = by_verdict c.args.plan.now c.args.rows.now c.args.breach c.in-Broken.first c.in_ok-verdict.verdict c.if-breach-lt5.false c.in-Broken.is c.in_ok-verdict.ensures.exact in
    (λ yes. exact.0 (c.is_same-in-Broken.ensures.0 yes), λ first. c.is_same-in-Broken.ensures.1 (exact.1 first))

pub returns-in-Accepted : goal.returns-in-Accepted
returns-in-Accepted c = (λ no. absurd (cc), λ first. let e : c.in_ok-verdict.verdict ≡ Broken c.args.breach = (c.in_ok-verdict.ensures.exact.broken c.args.breach).1 (later_of c.args.plan.now c.args.rows.now c.args.breach c.if-breach-lt5.false first) in let f = sym c.in-Accepted.is ∙ e in absurd (cc))
