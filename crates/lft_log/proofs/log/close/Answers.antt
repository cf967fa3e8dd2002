use Rattle.std.proofs.Common.{inr}
use Rattle.lft_monitor.proofs.Following.{unjudged_so_far}
use Rattle.lft_log.proofs.log.close.Goals as goal

pub returns-in-Ok-Unbroken : goal.returns-in-Ok-Unbroken
returns-in-Ok-Unbroken c = λ until t more is quiet all. (all, rw c.in-Ok-Unbroken.field-0-is at (c.in-Ok-Unbroken.ensures.closed t is))

pub returns-in-Ok-Broken : goal.returns-in-Ok-Broken
returns-in-Ok-Broken c = λ until t more is quiet all. inr (all, quiet, rw c.in-Ok-Broken.field-0-is at (c.in-Ok-Broken.ensures.closed t is))

pub returns-in-Err : goal.returns-in-Err
returns-in-Err c = λ until t more is quiet all. unjudged_so_far c.args.plan.now t c.in-Err.left (c.in-Err.ensures.unjudged t is)
