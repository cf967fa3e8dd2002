use Rattle.std.proofs.Common.{◌≡◌, length, refl, ap, arith, below_more}
use Rattle.std.proofs.lemmas.Bool.{false≢true}
use Rattle.lft_ir.specs.Parts.{Parts}
use Rattle.lft_model.{specs.Presence.PortClash, proofs.Clashing.no_collision_found}
use Rattle.lft_facts.proofs.collision.two_causes.Goals as goal

pub loop-port-preserved : goal.loop-port-preserved
loop-port-preserved c = below_more (λ p. ¬ PortClash c.args.plan.now c.args.rows.now c.args.tag p) c.loop-port.port c.loop-port.invariant c.in_default.ensures.none

pub unreachable-requires : goal.unreachable-requires
unreachable-requires c =
    let ports : length c.program.result.now.ports ≡ length c.args.plan.now.program.ports = ap (λ (z : Parts). length z.ports) c.program.ensures.value in
    let actions : length c.program-2.result.now.actions ≡ length c.args.plan.now.program.actions = ap (λ (z : Parts). length z.actions) c.program-2.ensures.value in
    let some_ports = c.ports-port-end.ensures.count in
    let some_actions = c.actions-action-end.ensures.count in
    let no_port = c.loop-port-test.false in
    let no_action = c.loop-action-test.false in
    false≢true ((no_collision_found c.args.plan.now c.args.rows.now c.args.rows.now refl c.args.tag c.requires.fit.each c.program.ensures.sound.fit (λ p l. c.loop-port.invariant p (omega arith)) (λ a l. c.loop-action.invariant a (omega arith))).1 c.requires.clash)
