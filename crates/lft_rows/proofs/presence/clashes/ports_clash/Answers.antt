use Rattle.std.proofs.Common.{◌≡◌, ℕ, length, ap, ◌∙◌, subst, arith}
use Rattle.lft_ir.specs.Parts.{Parts}
use Rattle.lft_rows.{specs.{Presence.Traces.LeastTag, inner.Presence.Clashes.PortsClash}, proofs.PresenceLemmas.Collisions.ports_more}
use Rattle.lft_rows.proofs.presence.clashes.ports_clash.Goals as goal

pub loop-port-preserved : goal.loop-port-preserved
loop-port-preserved c = ports_more c.args.plan.now c.args.rows.now c.loop-port.port c.loop-port.least c.port_clash.result c.sooner-least.result c.loop-port.invariant c.port_clash.ensures c.sooner-least.ensures

pub returns : goal.returns
returns c =
    let count : c.ports-port-end.result ≡ length c.args.plan.now.program.ports = c.ports-port-end.ensures.count ∙ ap (λ (p : Parts). length p.ports) c.program.ensures.value in
    let end : c.loop-port.port ≡ length c.args.plan.now.program.ports = omega (arith, count) in
    subst (λ (n : ℕ). LeastTag (PortsClash c.args.plan.now c.args.rows.now n) c.loop-port.least) end c.loop-port.invariant
