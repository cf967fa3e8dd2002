use Rattle.std.proofs.Common.{◌<◌, Any, sym}
use Rattle.lft_tree.specs.{Tree.nanoseconds, View.reactor_view}
use Rattle.lft_resolve.{specs.Causes.longest, proofs.Somes.{none_more, none_done}}
use Rattle.lft_validate.{specs.inner.Members.behind, proofs.Listing.{stands_at, unmapped}}
use Rattle.lft_validate.proofs.mains.long_default.Goals as goal

pub returns-in-Some-clause-shows : goal.returns-in-Some-clause-shows
returns-in-Some-clause-shows c =
    let rs = c.args.reactors.now in
    c.in-Some.ensures.shows (behind rs) (stands_at (λ r. r.now) rs c.loop-reactor.reactor-index c.reactor-item.result c.loop-reactor-test.true (sym c.reactor-item.is))

pub loop-reactor-preserved : goal.loop-reactor-preserved
loop-reactor-preserved c = none_more (λ r. r.now) (λ r. Any (λ p. longest < nanoseconds p.default) (reactor_view r).parameters) c.args.reactors.now c.loop-reactor.reactor-index c.reactor-item.result c.loop-reactor-test.true (sym c.reactor-item.is) c.loop-reactor.invariant c.in_default.ensures.none

pub returns-clause-none : goal.returns-clause-none
returns-clause-none c a = none_done (λ r. r.now) (λ r. Any (λ p. longest < nanoseconds p.default) (reactor_view r).parameters) c.args.reactors.now c.loop-reactor.reactor-index c.loop-reactor-test.false c.loop-reactor.invariant (unmapped (λ r. Any (λ p. longest < nanoseconds p.default) r.parameters) reactor_view (behind c.args.reactors.now) a)
