use Rattle.std.proofs.lemmas.Result.{IfErr-weaker}
use Rattle.lft_driver.{specs.PairRefusals.PairRefusalUnder.{by_pairing, by_traces}, proofs.Pairing.pairing_untold}
use Rattle.lft_driver.proofs.pair.pair_plan.Goals as goal

pub returns-in-Ok-clause-refused : goal.returns-in-Ok-clause-refused
returns-in-Ok-clause-refused g c = IfErr-weaker c.pair_rows.result _ _ (λ f h. by_pairing c.in-Ok.both.first c.in-Ok.both.second c.in-Ok.ensures.have_tables h) c.pair_rows.ensures.refused

pub returns-in-Err-clause-refused : goal.returns-in-Err-clause-refused
returns-in-Err-clause-refused g c = by_traces c.in-Err.ensures.refused

pub returns-in-Ok-clause-none : goal.returns-in-Ok-clause-none
returns-in-Ok-clause-none g c = IfErr-weaker c.pair_rows.result _ _ (λ f h t. absurd (pairing_untold c.args.plan.now c.in-Ok.both.first c.in-Ok.both.second c.args.workers _ _ f h t)) c.pair_rows.ensures.refused
