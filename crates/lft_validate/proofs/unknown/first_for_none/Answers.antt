use Rattle.lft_tree.specs.View.{assignment_view}
use Rattle.lft_resolve.{specs.Causes.LacksParameter, proofs.Somes.none_done}
use Rattle.lft_validate.proofs.unknown.first_for_none.Goals as goal

pub returns-clause-none : goal.returns-clause-none
returns-clause-none c r own = none_done assignment_view (LacksParameter r) c.args.given.now c.loop-value.value-index c.loop-value-test.false (c.loop-value.invariant r own)
