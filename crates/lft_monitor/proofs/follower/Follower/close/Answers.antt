use Rattle.std.proofs.Common.{List}
use Rattle.std.proofs.lemmas.Result.{IfOk-weaker, IfErr-weaker}
use Rattle.lft_ir.specs.declared.steps.row.Row.{Row}
use Rattle.lft_monitor.{specs.inner.Follows.{IsClosing, IsUnjudged}, proofs.{Ended.at_end, Onward.held_is}}
use Rattle.lft_monitor.proofs.follower.Follower.close.Goals as goal

pub returns-clause-closed : goal.returns-clause-closed
returns-clause-closed c = IfOk-weaker c.close.result _ _ (λ closing told t is. at_end c.args.plan.now t c.args.self.now is _ (held_is c.args.self.now c.as_slice.result.now c.as_slice.ensures.value) (λ (u : List Row). IsClosing c.args.plan.now u closing) (λ d judged earlier so_far. told d judged earlier)) c.close.ensures.closed

pub returns-clause-unjudged : goal.returns-clause-unjudged
returns-clause-unjudged c = IfErr-weaker c.close.result _ _ (λ left told t is. at_end c.args.plan.now t c.args.self.now is _ (held_is c.args.self.now c.as_slice.result.now c.as_slice.ensures.value) (λ (u : List Row). IsUnjudged c.args.plan.now u left) (λ d judged earlier so_far. told d judged so_far)) c.close.ensures.unjudged
