use Rattle.std.proofs.Common.{List}
use Rattle.std.proofs.lemmas.Result.{IfOk-weaker, IfErr-weaker}
use Rattle.lft_ir.specs.declared.steps.row.Row.{Row}
use Rattle.lft_monitor.{specs.inner.Follows.{IsEnding, IsUnjudged}, proofs.{Ended.at_end, Onward.held_is}}
use Rattle.lft_monitor.proofs.follower.Follower.finish.Goals as goal

pub returns-clause-ended : goal.returns-clause-ended
returns-clause-ended c = IfOk-weaker c.finish.result _ _ (λ ending told t is. at_end c.args.plan.now t c.args.self.now is _ (held_is c.args.self.now c.as_slice.result.now c.as_slice.ensures.value) (λ (u : List Row). IsEnding c.args.plan.now c.args.whole u ending) told) c.finish.ensures.ended

pub returns-clause-unjudged : goal.returns-clause-unjudged
returns-clause-unjudged c = IfErr-weaker c.finish.result _ _ (λ left told t is. at_end c.args.plan.now t c.args.self.now is _ (held_is c.args.self.now c.as_slice.result.now c.as_slice.ensures.value) (λ (u : List Row). IsUnjudged c.args.plan.now u left) (λ d judged earlier so_far. told d judged so_far)) c.finish.ensures.unjudged
