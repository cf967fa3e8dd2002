use Rattle.std.proofs.Common.{◌≡◌, ◌<◌, ◌≤◌, length, Some, slice_get, arith, refl, subst, sym, ◌∙◌}
use Rattle.lft_resolve.specs.{inner.Expansion.{Numbers.things, Joins.HasJoin}, declared.expansion.joins.Site.Site}
use Rattle.lft_resolve.proofs.ExpansionLemmas.Joining.{port_number, sited_more, sourced_more, sourced_next, sourced_end, sources_inside}
use Rattle.lft_resolve.proofs.expansion.joins.find_sources.Goals.{After-item_at-join, After-port_of-to}
use Rattle.lft_tag.specs.declared.Source.{Source}
use Rattle.lft_resolve.proofs.expansion.joins.find_sources.Goals as goal

-- the join is one of this instance
has : (c : goal.After-item_at-join) → HasJoin c.args.table.now c.args.instances.now c.instances.number c.joins.place c.item_at-join.result
has c = (c.item_at.result, c.item_at.ensures, subst (λ l. slice_get l c.joins.place ≡ Some c.item_at-join.result) c.joins_of-joins.ensures c.item_at-join.ensures)

pub port_of-port-requires : goal.port_of-port-requires
port_of-port-requires c =
    let r = port_number c.args.counts.now c.args.instances.now c.args.firsts.now c.args.children.now c.requires.numbered c.instances.number c.item_at-join.result.from (c.requires.ports c.instances.number c.joins.place c.item_at-join.result (has ((goal.at.port_of-port-requires c).After-item_at-join))).0 in
    let few : things c.args.counts.now c.args.instances.now ≤ 100000 = c.requires.few_ports in
    let low : r.0 < things c.args.counts.now c.args.instances.now = r.2 in
    (r.0, r.1, omega arith)

pub port_of-to-requires : goal.port_of-to-requires
port_of-to-requires c =
    let r = port_number c.args.counts.now c.args.instances.now c.args.firsts.now c.args.children.now c.requires.numbered c.instances.number c.item_at-join.result.to (c.requires.ports c.instances.number c.joins.place c.item_at-join.result (has ((goal.at.port_of-to-requires c).After-item_at-join))).1 in
    let few : things c.args.counts.now c.args.instances.now ≤ 100000 = c.requires.few_ports in
    let low : r.0 < things c.args.counts.now c.args.instances.now = r.2 in
    (r.0, r.1, omega arith)

-- the destination is a port
low : (c : goal.After-port_of-to) → c.port_of-to.result < things c.args.counts.now c.args.instances.now
low c =
    let r = port_number c.args.counts.now c.args.instances.now c.args.firsts.now c.args.children.now c.requires.numbered c.instances.number c.item_at-join.result.to (c.requires.ports c.instances.number c.joins.place c.item_at-join.result (has ((goal.at.After-port_of-to c).After-item_at-join))).1 in
    let below : r.0 < things c.args.counts.now c.args.instances.now = r.2 in
    let same : Some r.0 ≡ Some c.port_of-to.result = sym r.1 ∙ c.port_of-to.ensures in
    let q : r.0 ≡ c.port_of-to.result = cc in
    omega arith

pub index_mut-requires : goal.index_mut-requires
index_mut-requires c =
    let l = low ((goal.at.index_mut-requires c).After-port_of-to) in
    let s = c.joins.invariant.0.as_long in
    let all = c.joins.sources.ok.0 in
    omega arith

pub index_mut-requires-in-joins : goal.index_mut-requires-in-joins
index_mut-requires-in-joins c =
    let l = low ((goal.at.index_mut-requires-in-joins c).After-port_of-to) in
    let s = c.joins.invariant.0.as_long in
    let t = c.joins.invariant.1.as_long in
    let all = c.joins.sites.ok.0 in
    omega arith

pub joins-preserved : goal.joins-preserved
joins-preserved c =
    let table = c.args.table.now in
    let instances = c.args.instances.now in
    let firsts = c.args.firsts.now in
    let children = c.args.children.now in
    let values = c.args.values.now in
    let number = c.instances.number in
    let place = c.joins.place in
    let join = c.item_at-join.result in
    let to = c.port_of-to.result in
    let source : Source = record { port = c.port_of-port.result; delay = c.delay_in-delay.result } in
    let site : Site = record { number = number; place = place } in
    let there = has ((goal.at.joins-preserved c).After-item_at-join) in
    let within = low ((goal.at.joins-preserved c).After-port_of-to) in
    let long = c.joins.invariant.0.as_long in (
      sourced_more c.args.counts.now table instances firsts children values c.requires.apart number place c.joins.sources.items join to source c.joins.invariant.0 there c.port_of-port.ensures c.port_of-to.ensures c.delay_in-delay.ensures within,
      sited_more table instances firsts children values c.joins.sources.items c.joins.sites.items to source site c.joins.invariant.1 (record { number = number; place = place; join = join; has_join = there; from = c.port_of-port.ensures; to = c.port_of-to.ensures; is_delay = sym c.delay_in-delay.ensures }, (refl, refl)) (omega (arith, within, long)),
    )

pub instances-preserved : goal.instances-preserved
instances-preserved c = (sourced_next c.args.counts.now c.args.table.now c.args.instances.now c.args.firsts.now c.args.children.now c.args.values.now c.instances.number c.joins.place c.joins.sources.items c.item_at.result c.joins.invariant.0 c.item_at.ensures (subst (λ l. length l ≤ c.joins.place) c.joins_of-joins.ensures c.joins-test.false), c.joins.invariant.1)

pub returns-clause-sources : goal.returns-clause-sources
returns-clause-sources c = sourced_end c.args.counts.now c.args.table.now c.args.instances.now c.args.firsts.now c.args.children.now c.args.values.now c.instances.number 0 c.instances.sources.items c.instances.invariant.0 c.instances-test.false

pub returns-clause-inside : goal.returns-clause-inside
returns-clause-inside c = sources_inside c.args.counts.now c.args.table.now c.args.instances.now c.args.firsts.now c.args.children.now c.args.values.now c.instances.sources.items c.requires.numbered c.requires.ports (sourced_end c.args.counts.now c.args.table.now c.args.instances.now c.args.firsts.now c.args.children.now c.args.values.now c.instances.number 0 c.instances.sources.items c.instances.invariant.0 c.instances-test.false)
