use Rattle.std.proofs.Common.{◌≡◌, sym}
use Rattle.lft_tree.specs.View.{ref_view}
use Rattle.lft_resolve.proofs.Somes.{fails, none_more, none_done}
use Rattle.lft_validate.proofs.Listing.{stands_at}
use Rattle.lft_validate.proofs.twice.same_among.Goals as goal

pub returns-then-is_same-clause-some : goal.returns-then-is_same-clause-some
returns-then-is_same-clause-some c = (stands_at (λ x. x.now) c.args.names.now c.loop-other.other-index c.other-item.result c.loop-other-test.true (sym c.other-item.is), c.is_same.ensures.0 c.if-is_same.true)

pub loop-other-preserved : goal.loop-other-preserved
loop-other-preserved c = none_more (λ r. ref_view r.now) (λ y. y ≡ ref_view c.args.name.now) c.args.names.now c.loop-other.other-index c.other-item.result c.loop-other-test.true (sym c.other-item.is) c.loop-other.invariant (fails c.is_same.result c.is_same.ensures c.if-is_same.false)

pub returns-clause-none : goal.returns-clause-none
returns-clause-none c = none_done (λ r. ref_view r.now) (λ y. y ≡ ref_view c.args.name.now) c.args.names.now c.loop-other.other-index c.loop-other-test.false c.loop-other.invariant
