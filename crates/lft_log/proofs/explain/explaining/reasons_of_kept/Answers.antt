use Rattle.std.proofs.Common.{◌∷◌, ◌++◌, [], ℕ, List, inr, subst}
use Rattle.std.proofs.lemmas.Result.{IfErr-weaker, IfOk-weaker}
use Rattle.lft_monitor.specs.Follows.{breach_of}
use Rattle.lft_log.specs.{Logs.HasManyRows, Explain.Explained.ExplainsCut}
use Rattle.lft_log.proofs.explain.explaining.reasons_of_kept.Goals as goal

pub returns-in-All-clause-text : goal.returns-in-All-clause-text
returns-in-All-clause-text c = IfOk-weaker c.reasons_of_log.result _ _ (λ text so. (c.in-All.log, c.in-All.is, subst (λ (log : List ℕ). ExplainsCut c.args.all c.args.at_end c.args.plan.now log (breach_of c.args.found) text.items) c.as_slice.ensures.value so)) c.reasons_of_log.ensures.text

pub returns-in-All-clause-long : goal.returns-in-All-clause-long
returns-in-All-clause-long c = IfErr-weaker c.reasons_of_log.result _ _ (λ why so is. inr (c.in-All.log, c.in-All.is, subst (λ (log : List ℕ). HasManyRows c.args.plan.now.program (log ++ 10 ∷ [])) c.as_slice.ensures.value (so is))) c.reasons_of_log.ensures.long
