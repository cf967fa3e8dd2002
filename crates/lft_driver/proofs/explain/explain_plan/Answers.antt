use Rattle.std.proofs.{lemmas.Result.IfErr-weaker, KnownBytes.Keeps-refl}
use Rattle.lft_driver.{specs.Explained.ExplainRefusalUnder.{by_explaining, by_trace}, proofs.Explaining.{explaining_kept, explaining_untold}}
use Rattle.lft_driver.proofs.explain.explain_plan.Goals as goal

pub returns-in-Ok-clause-refused : goal.returns-in-Ok-clause-refused
returns-in-Ok-clause-refused g c = IfErr-weaker c.explain_rows.result _ _ (λ f h. by_explaining c.in-Ok.rows c.in-Ok.ensures.table h) c.explain_rows.ensures.refused

pub returns-in-Err-clause-refused : goal.returns-in-Err-clause-refused
returns-in-Err-clause-refused g c = by_trace c.in-Err.ensures.refused (Keeps-refl (g.W.Write.contents c.args.out.now))

pub returns-in-Ok-clause-none : goal.returns-in-Ok-clause-none
returns-in-Ok-clause-none g c = IfErr-weaker c.explain_rows.result _ _ (λ f h t. absurd (explaining_untold c.args.all c.args.plan.now c.in-Ok.rows c.args.workers _ _ f h t)) c.explain_rows.ensures.refused

pub returns-in-Ok-clause-kept : goal.returns-in-Ok-clause-kept
returns-in-Ok-clause-kept g c = explaining_kept c.args.all c.args.plan.now c.in-Ok.rows c.args.workers _ _ c.explain_rows.result c.explain_rows.ensures.refused
