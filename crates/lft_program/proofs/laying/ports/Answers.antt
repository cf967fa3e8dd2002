use Rattle.std.proofs.Common.{◌≡◌, ◌<◌, ◌∷◌, [], length, ◌+◌, ap, ◌∙◌, arith, rules, length-append}
use Rattle.std.proofs.lemmas.Grind.{common_steps}
use Rattle.lft_program.proofs.{ByNumber.item_there, Making.made_more, OriginsLaid.keeps_origins}
use Rattle.lft_program.proofs.PortsLaid.{IsLinkedPort, link_within, links_long, port_for, ports_are}
use Rattle.lft_program.proofs.laying.ports.Goals as goal

pub bounds-links-number : goal.bounds-links-number
bounds-links-number c =
    let within : c.loop-number.number < length c.in_ok-things.things.items = grind (arith, common_steps) in
    let of = c.requires in
    link_within of.0 c.args.tables.now c.args.nest.now c.args.links.now of.1 c.in_ok-things.things.items (c.in_ok-things.ensures of.0 c.args.tables.now of.1.is_nest) c.loop-number.number within

pub offset_bounds-links-number : goal.offset_bounds-links-number
offset_bounds-links-number c =
    let within : c.loop-number.number < length c.in_ok-things.things.items = grind (arith, common_steps) in
    let of = c.requires in
    let below = link_within of.0 c.args.tables.now c.args.nest.now c.args.links.now of.1 c.in_ok-things.things.items (c.in_ok-things.ensures of.0 c.args.tables.now of.1.is_nest) c.loop-number.number within in
    search rules

pub port-requires : goal.port-requires
port-requires c =
    let within : c.loop-number.number < length c.in_ok-things.things.items = grind (arith, common_steps) in
    let at = item_there c.in_ok-things.things.items c.loop-number.number c.index.result.now within c.index.ensures in
    let of = c.requires in
    port_for of.0 c.args.tables.now c.args.nest.now c.args.links.now of.1 c.in_ok-things.things.items (c.in_ok-things.ensures of.0 c.args.tables.now of.1.is_nest) c.loop-number.number c.index.result.now at

pub loop-number-preserved : goal.loop-number-preserved
loop-number-preserved c =
    let within : c.loop-number.number < length c.in_ok-things.things.items = grind (arith, common_steps) in
    let of = c.requires in
    let link = item_there c.args.links.now c.loop-number.number c.index-links-number.result (link_within of.0 c.args.tables.now c.args.nest.now c.args.links.now of.1 c.in_ok-things.things.items (c.in_ok-things.ensures of.0 c.args.tables.now of.1.is_nest) c.loop-number.number within) c.index-links-number.is in
    let at = item_there c.in_ok-things.things.items c.loop-number.number c.index.result.now within c.index.ensures in
    let long = length-append c.loop-number.ports.items (c.port.result ∷ []) ∙ ap (λ n. n + 1) c.loop-number.invariant.0 in
    rw c.in_ok-push.ensures.items
    (long, made_more (IsLinkedPort c.args.tables.now c.args.nest.now c.args.links.now) c.in_ok-things.things.items c.loop-number.ports.items c.loop-number.number c.index.result.now c.port.result c.loop-number.invariant.0 c.loop-number.invariant.1 at (c.index-links-number.result, link, c.port.ensures))

pub returns-clause-ports : goal.returns-clause-ports
returns-clause-ports c = λ tree of. (
    let all : length c.loop-number.ports.items ≡ length c.in_ok-things.things.items = grind (arith, common_steps) in
    ports_are tree c.args.tables.now c.args.nest.now c.args.links.now of c.in_ok-things.things.items (c.in_ok-things.ensures tree c.args.tables.now of.is_nest) c.loop-number.ports.items all c.loop-number.invariant.1)

pub returns-clause-origins : goal.returns-clause-origins
returns-clause-origins c = λ tree of. (
    let all : length c.loop-number.ports.items ≡ length c.in_ok-things.things.items = grind (arith, common_steps) in
    let long = links_long tree c.args.tables.now c.args.nest.now c.args.links.now of c.in_ok-things.things.items (c.in_ok-things.ensures tree c.args.tables.now of.is_nest) in
    keeps_origins tree c.args.tables.now c.args.nest.now c.args.links.now of c.in_ok-things.things.items c.loop-number.ports.items long all c.loop-number.invariant.1)
