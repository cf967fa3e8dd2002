use Rattle.std.proofs.Common.{rules}
use Rattle.lft_model.specs.Recorded.{run_row}
use Rattle.lft_scheduler.proofs.Steps.{inert}
use Rattle.lft_scheduler.proofs.events.feeding.feed_step.Goals as goal

pub returns-in_default : goal.returns-in_default
returns-in_default c = λ t w r u is. inert c.args.plan.now t (run_row w c.args.tag r c.args.step) (λ p v e. absurd (search rules)) (λ a d v e. absurd (search rules)) c.args.tag c.args.last c.args.clash c.args.queue.now is

pub returns-in_default-2 : goal.returns-in_default-2
returns-in_default-2 c = λ t w r u is. inert c.args.plan.now t (run_row w c.args.tag r c.args.step) (λ p v e. absurd (search rules)) (λ a d v e. absurd (search rules)) c.args.tag c.args.last c.args.clash c.args.queue.now is

pub returns-in_default-3 : goal.returns-in_default-3
returns-in_default-3 c = λ t w r u is. inert c.args.plan.now t (run_row w c.args.tag r c.args.step) (λ p v e. absurd (search rules)) (λ a d v e. absurd (search rules)) c.args.tag c.args.last c.args.clash c.args.queue.now is
