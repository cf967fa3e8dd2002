use Rattle.std.proofs.Common.{inr, sym, subst, ◌∙◌}
use Rattle.std.proofs.lemmas.Option.{IfSome_then, MatchOption-at_some}
use Rattle.lft_check.specs.Verdicts.{IsVerdict}
use Rattle.lft_driver.specs.Judged.{Accepts}
use Rattle.lft_driver.proofs.reader.judge_reader.Goals as goal

pub returns-in-Ok-clause-accepts : goal.returns-in-Ok-clause-accepts
returns-in-Ok-clause-accepts g c = subst Accepts (sym (c.in-Ok.ensures.same ∙ c.accepted_by.ensures)) tt

pub returns-in-Err-tell-clause-refused : goal.returns-in-Err-tell-clause-refused
returns-in-Err-tell-clause-refused g c = inr c.in-Err-tell.ensures.fault

pub returns-in-Err-tell-clause-told : goal.returns-in-Err-tell-clause-told
returns-in-Err-tell-clause-told g c = λ written.
    let known = MatchOption-at_some _ _ c.in-Ok-Some.counts c.in-Ok-Some.field-0-is c.in-Ok-Some.ensures in
    IfSome_then (g.R.Read.remaining c.args.trace) known (λ text h.
    c.in-Err-tell.ensures.refused text c.args.workers (h.0, h.1, subst (IsVerdict c.args.plan.now h.0) (sym c.accepted_by.ensures) h.2) (c.is_workers.ensures.0 c.if-not-is_workers.false))
