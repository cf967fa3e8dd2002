use Rattle.std.proofs.Common.{⊎_elim, refl, sym, subst}
use Rattle.std.proofs.lemmas.{Bool.false≢true, Result.{IfOk-weaker, IfErr-weaker}}
use Rattle.lft_log.{specs.{Logs.tag_of_entry, inner.Told.IsBeforeLatest}, proofs.Inputs.{late_behind, passed_either}}
use Rattle.lft_log.proofs.telling.tell_behind.Goals as goal

pub returns-then-is_before_latest-clause-fault : goal.returns-then-is_before_latest-clause-fault
returns-then-is_before_latest-clause-fault c = λ t u follower is base bytes lines stands told same numbered. late_behind base bytes lines t u c.args.latest c.args.entry c.args.number stands is (subst (λ g. IsBeforeLatest g c.args.latest) c.tag_of.ensures (c.if-is_before_latest.ensures.0 refl)) same numbered

pub returns-clause-timely : goal.returns-clause-timely
returns-clause-timely c = IfOk-weaker c.tell.result _ _ (λ x told t u follower is passed. ⊎_elim (λ p. told t follower p) (λ p. false≢true (c.if-is_before_latest.ensures.1 (subst (λ g. IsBeforeLatest g c.args.latest) (sym c.tag_of.ensures) ((is (tag_of_entry c.args.entry)).0 p)))) (passed_either t u (tag_of_entry c.args.entry) passed)) c.tell.ensures.timely

pub returns-clause-fault : goal.returns-clause-fault
returns-clause-fault c = IfErr-weaker c.tell.result _ _ (λ f told t u follower is. told t u follower) c.tell.ensures.fault
