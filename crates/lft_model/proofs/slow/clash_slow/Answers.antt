use Rattle.std.proofs.Common.{◌≡◌, length, sym, ap, ◌∙◌, below_more, arith}
use Rattle.std.proofs.lemmas.Bool.{false≢true}
use Rattle.lft_ir.specs.{Parts.Parts, declared.parts.Name.TheVariants.{Port, Action}}
use Rattle.lft_model.{specs.Presence.PortClash, proofs.Clashing.{found_collision, no_collision_found}}
use Rattle.lft_model.proofs.slow.clash_slow.Goals as goal

pub returns-then-port_clashes : goal.returns-then-port_clashes
returns-then-port_clashes c = found_collision c.args.plan.now c.as_slice-rows.result.now c.args.rows.now c.as_slice-rows.ensures c.args.tag (Port c.loop-port.port) (c.port_clashes.ensures.0 c.if-port_clashes.true)

pub loop-port-preserved : goal.loop-port-preserved
loop-port-preserved c = below_more (λ p. ¬ PortClash c.args.plan.now c.as_slice-rows.result.now c.args.tag p) c.loop-port.port c.loop-port.invariant (λ x. false≢true (sym c.if-port_clashes.false ∙ c.port_clashes.ensures.1 x))

pub returns-then-action_clashes : goal.returns-then-action_clashes
returns-then-action_clashes c = found_collision c.args.plan.now c.as_slice-rows.result.now c.args.rows.now c.as_slice-rows.ensures c.args.tag (Action c.loop-action.action) (c.action_clashes.ensures.0 c.if-action_clashes.true)

pub returns : goal.returns
returns c =
    let p : length c.program.result.now.ports ≡ length c.args.plan.now.program.ports = ap (λ (z : Parts). length z.ports) c.program.ensures.value in
    let a : length c.program-2.result.now.actions ≡ length c.args.plan.now.program.actions = ap (λ (z : Parts). length z.actions) c.program-2.ensures.value in
    no_collision_found c.args.plan.now c.as_slice-rows.result.now c.args.rows.now c.as_slice-rows.ensures c.args.tag c.requires c.program.ensures.sound.fit (λ k l. c.loop-port.invariant k (omega arith)) (λ k l. c.loop-action.invariant k (omega arith))
