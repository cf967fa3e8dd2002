use Rattle.std.proofs.Common.{◌∙◌, length, sym, subst, Some}
use Rattle.lft_lists.proofs.Places.{Some_same}
use Rattle.lft_tag.specs.declared.Tag.{Tag}
use Rattle.lft_ir.specs.declared.steps.row.Row.{Row}
use Rattle.lft_rows.specs.inner.Passes.{KeepsEarly, EarlyRule}
use Rattle.lft_races.specs.Races.{FirstEarly}
use Rattle.lft_log.proofs.ExplainLemmas.Early.{breach_at, early_some, early_none}
use Rattle.lft_log.proofs.explain.first.first_early.Goals as goal

pub returns-in-Some : goal.returns-in-Some
returns-in-Some c =
    let plan = c.args.plan.now in
    let t = c.args.rows.now in
    let gone = rw c.in-Some.is at c.in_ok-found.ensures in
    let kept = subst (λ (s : Tag). KeepsEarly s plan t c.in-Some.place) c.trace_stop.ensures gone.2.kept in
    let rule = subst (λ (s : Tag). EarlyRule s plan t c.in-Some.place gone.0 (Some c.in-Some.rule)) c.trace_stop.ensures gone.3 in
    subst (λ (r : Row). FirstEarly plan t (breach_at c.in-Some.place r c.in-Some.rule)) (Some_same gone.0 c.row_at-row.result (sym gone.1 ∙ c.row_at-row.ensures)) (early_some plan t c.in-Some.place c.in-Some.rule gone.0 gone.1 kept rule)

pub returns : goal.returns
returns c =
    let plan = c.args.plan.now in
    let t = c.args.rows.now in
    let gone = rw c.in-None.is at c.in_ok-found.ensures in
    early_none plan t (subst (λ (s : Tag). KeepsEarly s plan t (length t)) c.trace_stop.ensures gone.kept)
