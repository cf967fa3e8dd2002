use Rattle.std.proofs.Common.{inl, inr}
use Rattle.std.proofs.lemmas.Result.{IfErr-weaker, IfOk-weaker}
use Rattle.lft_driver.proofs.Judging.{refusal_untold}
use Rattle.lft_driver.proofs.judge.checked_table.Goals as goal

pub returns-in-Ok-clause-right : goal.returns-in-Ok-clause-right
returns-in-Ok-clause-right g c = IfOk-weaker c.checked.result _ _ (λ v h. (c.in-Ok.rows, c.in-Ok.ensures.table.is, h)) c.checked.ensures.verdict

pub returns-in-Ok-clause-refused : goal.returns-in-Ok-clause-refused
returns-in-Ok-clause-refused g c = IfErr-weaker c.checked.result _ _ (λ f h. inr (c.in-Ok.rows, c.in-Ok.ensures.table, h)) c.checked.ensures.fault

pub returns-in-Ok-clause-none : goal.returns-in-Ok-clause-none
returns-in-Ok-clause-none g c = IfErr-weaker c.checked.result _ _ (λ f h t. absurd (refusal_untold c.args.workers f h t)) c.checked.ensures.fault

pub returns-in-Err-clause-refused : goal.returns-in-Err-clause-refused
returns-in-Err-clause-refused g c = inl c.in-Err.ensures.refused
