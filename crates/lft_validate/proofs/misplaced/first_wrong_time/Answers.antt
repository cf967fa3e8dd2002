use Rattle.std.proofs.Common.{sym}
use Rattle.lft_tree.specs.View.{time_view}
use Rattle.lft_resolve.{specs.Causes.IsMisplacedTime, proofs.Somes.{none_more, none_done}}
use Rattle.lft_validate.proofs.misplaced.first_wrong_time.Goals as goal

pub loop-time-preserved : goal.loop-time-preserved
loop-time-preserved c r own = none_more (λ t. t.now) (λ t. IsMisplacedTime r (time_view t)) c.args.times.now c.loop-time.time-index c.time-item.result c.loop-time-test.true (sym c.time-item.is) (c.loop-time.invariant r own) (c.in_default.ensures.none r own)

pub returns-clause-none : goal.returns-clause-none
returns-clause-none c r own = none_done (λ t. t.now) (λ t. IsMisplacedTime r (time_view t)) c.args.times.now c.loop-time.time-index c.loop-time-test.false (c.loop-time.invariant r own)
