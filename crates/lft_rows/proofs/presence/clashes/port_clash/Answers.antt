use Rattle.std.proofs.Common.{◌≡◌, ◌<◌, true, length, Option, Some, None, slice_get, sym, ap, ◌∙◌, subst, arith}
use Rattle.lft_tag.specs.{declared.Tag.Tag, Shifts.shifted}
use Rattle.lft_ir.{proofs.Origins.origin_inside, specs.Parts.Parts}
use Rattle.lft_model.specs.Presence.{PortClash}
use Rattle.lft_rows.specs.{declared.presence.causes.EventCause.EventCause, inner.Presence.{Causes.{IsNear, tag_of}, Clashes.IsFirstPair}}
use Rattle.lft_rows.specs.Presence.Traces.{LeastTag}
use Rattle.lft_rows.proofs.PresenceLemmas.{Presences.chain_of, Collisions.{no_port_clash, port_no_pair, port_pair, pair_near}}
use Rattle.lft_rows.proofs.presence.clashes.port_clash.Goals as goal

pub returns-then-port-eq0 : goal.returns-then-port-eq0
returns-then-port-eq0 c =
    let plan = c.args.plan.now in
    let port = c.port-port.result.now in
    let chain = chain_of plan.program c.program.ensures.sound.sound c.args.number port (subst (λ (p : Parts). slice_get p.ports c.args.number ≡ Some port) c.program.ensures.value c.port-port.ensures.value) in
    no_port_clash plan c.args.rows.now c.args.causes.now c.requires.causes c.args.number port chain c.if-port-eq0.true

pub item_at-requires : goal.item_at-requires
item_at-requires c =
    let plan = c.args.plan.now in
    let port = c.port-port.result.now in
    let chain = chain_of plan.program c.program.ensures.sound.sound c.args.number port (subst (λ (p : Parts). slice_get p.ports c.args.number ≡ Some port) c.program.ensures.value c.port-port.ensures.value) in
    let known : port.origin < length plan.program.ports = origin_inside chain.is_origin in
    let long : length c.args.doubles.now ≡ length plan.program.ports = c.requires.doubles.as_long in
    omega arith

pub moved-requires : goal.moved-requires
moved-requires c =
    let port = c.port-port.result.now in
    let pair : IsFirstPair c.args.causes.now true port.origin (Some c.in-Some.cause) = subst (λ (z : Option EventCause). IsFirstPair c.args.causes.now true port.origin z) c.in-Some.is (c.requires.doubles.each port.origin c.item_at.result c.item_at.ensures) in
    subst (λ (z : Tag). IsNear z) (sym c.cause_tag.ensures) (pair_near c.args.causes.now c.requires.causes.near true port.origin c.in-Some.cause pair)

pub returns-in-Some : goal.returns-in-Some
returns-in-Some c =
    let plan = c.args.plan.now in
    let port = c.port-port.result.now in
    let chain = chain_of plan.program c.program.ensures.sound.sound c.args.number port (subst (λ (p : Parts). slice_get p.ports c.args.number ≡ Some port) c.program.ensures.value c.port-port.ensures.value) in
    let pair : IsFirstPair c.args.causes.now true port.origin (Some c.in-Some.cause) = subst (λ (z : Option EventCause). IsFirstPair c.args.causes.now true port.origin z) c.in-Some.is (c.requires.doubles.each port.origin c.item_at.result c.item_at.ensures) in
    let to : c.moved.result ≡ shifted (tag_of c.in-Some.cause) (port.shift.time, port.shift.steps) = c.moved.ensures ∙ ap (λ (z : Tag). shifted z (port.shift.time, port.shift.steps)) c.cause_tag.ensures in
    subst (λ (z : Tag). LeastTag (λ g. PortClash plan c.args.rows.now g c.args.number) (Some z)) (sym to) (port_pair plan c.args.rows.now c.args.causes.now c.requires.causes c.args.number port chain c.in-Some.cause (omega arith) pair)

pub returns-in-None : goal.returns-in-None
returns-in-None c =
    let plan = c.args.plan.now in
    let port = c.port-port.result.now in
    let chain = chain_of plan.program c.program.ensures.sound.sound c.args.number port (subst (λ (p : Parts). slice_get p.ports c.args.number ≡ Some port) c.program.ensures.value c.port-port.ensures.value) in
    let pair : IsFirstPair c.args.causes.now true port.origin None = subst (λ (z : Option EventCause). IsFirstPair c.args.causes.now true port.origin z) c.in-None.is (c.requires.doubles.each port.origin c.item_at.result c.item_at.ensures) in
    port_no_pair plan c.args.rows.now c.args.causes.now c.requires.causes c.args.number port chain pair
