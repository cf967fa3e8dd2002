use Rattle.std.proofs.Common.{sym, subst, refl}
use Rattle.lft_ir.specs.declared.parts.Name.{Name}
use Rattle.lft_facts.specs.inner.Causes.{StandsForName}
use Rattle.lft_facts.proofs.nearest.key_of.Goals as goal

pub returns-in-Port : goal.returns-in-Port
returns-in-Port c =
    let port = c.port-port.result.now in
    subst (λ (n : Name). StandsForName c.args.program.now n port.origin (port.shift.time, port.shift.steps)) (sym c.in-Port.is) (port, c.port-port.ensures.value, refl, refl)
