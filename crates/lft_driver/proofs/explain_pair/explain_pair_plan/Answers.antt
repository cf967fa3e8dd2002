use Rattle.std.proofs.{lemmas.Result.IfErr-weaker, KnownBytes.Keeps-refl}
use Rattle.lft_driver.{specs.PairExplained.PairExplainRefusalUnder.{by_explaining, by_traces}, proofs.PairExplaining.{explaining_untold, pair_kept}}
use Rattle.lft_driver.proofs.explain_pair.explain_pair_plan.Goals as goal

pub returns-in-Ok-clause-refused : goal.returns-in-Ok-clause-refused
returns-in-Ok-clause-refused g c = IfErr-weaker c.explain_rows.result _ _ (λ f h. by_explaining c.in-Ok.both.first c.in-Ok.both.second c.in-Ok.ensures.have_tables h) c.explain_rows.ensures.refused

pub returns-in-Err-clause-refused : goal.returns-in-Err-clause-refused
returns-in-Err-clause-refused g c = by_traces c.in-Err.ensures.refused (Keeps-refl (g.W.Write.contents c.args.out.now))

pub returns-in-Ok-clause-none : goal.returns-in-Ok-clause-none
returns-in-Ok-clause-none g c = IfErr-weaker c.explain_rows.result _ _ (λ f h t. absurd (explaining_untold c.args.all c.args.plan.now c.in-Ok.both.first c.in-Ok.both.second c.args.workers _ _ f h t)) c.explain_rows.ensures.refused

pub returns-in-Ok-clause-kept : goal.returns-in-Ok-clause-kept
returns-in-Ok-clause-kept g c = pair_kept c.args.all c.args.plan.now c.in-Ok.both.first c.in-Ok.both.second c.args.workers _ _ c.explain_rows.result c.explain_rows.ensures.refused
