use Rattle.std.proofs.Common.{subst, sym, arith}
use Rattle.lft_resolve.{specs.inner.Expansion.Sources.IsSourceReached, proofs.ExpansionLemmas.Chains.{all_reached, followed_more, source_reached}}
use Rattle.lft_resolve.proofs.expansion.origins.reached_along.Goals as goal

pub order-init : goal.order-init
order-init c = record { as_long = (let n = c.in_ok-all.ensures.len in let all = c.in_ok-all.all.ok.0 in omega arith); right = λ j p r lt. absurd (omega arith) }

pub reached_at-requires-clause-known : goal.reached_at-requires-clause-known
reached_at-requires-clause-known c = c.requires.order.within c.order.place c.item_at-port.result c.item_at-port.ensures

pub reached_at-requires-clause-source : goal.reached_at-requires-clause-source
reached_at-requires-clause-source c =
    let known = source_reached c.args.sources.now c.args.order.now c.requires.order c.requires.inside c.requires.few c.order.all.items c.order.place c.item_at-port.result c.order.invariant c.item_at-port.ensures in
    subst (λ l. IsSourceReached c.args.sources.now l c.item_at-port.result) (sym c.deref.ensures.value) known

pub order-preserved : goal.order-preserved
order-preserved c = followed_more c.args.sources.now c.args.order.now c.requires.order c.order.all.items c.order.place c.item_at-port.result c.reached_at.result c.order.invariant c.item_at-port.ensures c.reached_at.ensures

pub returns : goal.returns
returns c = all_reached c.args.sources.now c.args.order.now c.requires.order c.order.all.items c.order.place c.order.invariant c.order-test.false
