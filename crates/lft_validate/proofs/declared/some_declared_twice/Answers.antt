use Rattle.std.proofs.Common.{sym}
use Rattle.lft_tree.specs.View.{reactor_view}
use Rattle.lft_resolve.{specs.{Causes.IsTwice, Kinds.names_in}, proofs.Somes.{none_more, none_done}}
use Rattle.lft_validate.{specs.{Witnesses.Shows, inner.Members.behind}, proofs.Listing.stands_at}
use Rattle.lft_lists.proofs.Options.{found, lacking}
use Rattle.lft_validate.proofs.declared.some_declared_twice.Goals as goal

pub returns-in-Some-clause-shows : goal.returns-in-Some-clause-shows
returns-in-Some-clause-shows c =
    let rs = c.args.reactors.now in
    found (Shows (behind rs)) c.in_ok-found.field-0 c.in-Some.found (c.in_ok-found.ensures.shows (behind rs) (stands_at (λ r. r.now) rs c.loop-reactor.reactor-index c.reactor-item.result c.loop-reactor-test.true (sym c.reactor-item.is))) c.in-Some.is

pub loop-reactor-preserved : goal.loop-reactor-preserved
loop-reactor-preserved c = none_more (λ r. r.now) (λ r. IsTwice (names_in (reactor_view r))) c.args.reactors.now c.loop-reactor.reactor-index c.reactor-item.result c.loop-reactor-test.true (sym c.reactor-item.is) c.loop-reactor.invariant (lacking (IsTwice (names_in (reactor_view c.reactor-item.result.now)) → ⊥) c.in_ok-found.field-0 c.in_ok-found.ensures.none c.in_default.is)

pub returns-clause-none : goal.returns-clause-none
returns-clause-none c = none_done (λ r. r.now) (λ r. IsTwice (names_in (reactor_view r))) c.args.reactors.now c.loop-reactor.reactor-index c.loop-reactor-test.false c.loop-reactor.invariant
