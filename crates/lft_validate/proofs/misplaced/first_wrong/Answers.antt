use Rattle.std.proofs.Common.{sym}
use Rattle.lft_tree.specs.View.{ref_view}
use Rattle.lft_resolve.{specs.Causes.IsMisplaced, proofs.Somes.{none_more, none_done}}
use Rattle.lft_validate.proofs.Listing.{stands_at}
use Rattle.lft_validate.proofs.misplaced.first_wrong.Goals as goal

pub loop-name-preserved : goal.loop-name-preserved
loop-name-preserved c rs r file own = none_more (λ x. x.now) (λ x. IsMisplaced rs r (c.args.role, ref_view x)) c.args.names.now c.loop-name.name-index c.name-item.result c.loop-name-test.true (sym c.name-item.is) (c.loop-name.invariant rs r file own) (c.in_default.ensures.none rs r file own)

pub returns-clause-none : goal.returns-clause-none
returns-clause-none c rs r file own = none_done (λ x. x.now) (λ x. IsMisplaced rs r (c.args.role, ref_view x)) c.args.names.now c.loop-name.name-index c.loop-name-test.false (c.loop-name.invariant rs r file own)

pub returns-in-Some-clause-some : goal.returns-in-Some-clause-some
returns-in-Some-clause-some c rs r file own = (stands_at (λ x. x.now) c.args.names.now c.loop-name.name-index c.name-item.result c.loop-name-test.true (sym c.name-item.is), c.in-Some.ensures.some rs r file own)
