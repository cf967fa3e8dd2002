use Rattle.std.proofs.Common.{◌≡◌, Bool, false, true, sym, ◌∙◌, subst, arith, Contains}
use Rattle.lft_ir.specs.declared.parts.Name.{Name, TheVariants.Port}
use Rattle.lft_graph.proofs.Feeding.{no_delay, kept_origin}
use Rattle.lft_facts.specs.inner.Ways.{IsFedUndelayed}
use Rattle.lft_facts.proofs.feeding.fed_port.Goals.{else-port-eq0-via-then-port-eq0+then-port-eq0-2+else-has_port, else-port-eq0-via-then-port-eq0+else-port-eq0-2, else-port-eq0-via-else-port-eq0}
use Rattle.lft_facts.proofs.feeding.fed_port.Goals as goal

pub returns-then-has_port-clause-some : goal.returns-then-has_port-clause-some
returns-then-has_port-clause-some c =
    let port = c.port-port.result.now in
    (c.in-Port.is, subst (λ (n : Name). IsFedUndelayed c.args.program.now c.args.effects.now n) (sym c.in-Port.is) (port.origin, no_delay c.args.program.now c.port-port.ensures.sound c.in-Port.number port c.port-port.ensures.value c.if-port-eq0.true c.if-port-eq0-2.true, c.has_port.ensures.0 c.if-has_port.true))

pub returns-else-port-eq0-clause-none : goal.returns-else-port-eq0-clause-none
returns-else-port-eq0-clause-none c f =
    let port = c.port-port.result.now in
    let fed : IsFedUndelayed c.args.program.now c.args.effects.now (Port c.in-Port.number) = subst (λ (n : Name). IsFedUndelayed c.args.program.now c.args.effects.now n) c.in-Port.is f in
    let k = kept_origin c.args.program.now c.port-port.ensures.sound c.in-Port.number fed.0 port c.port-port.ensures.value fed.1 in
    let t : port.shift.time ≡ 0 = k.1 in
    let s : port.shift.steps ≡ 0 = k.2 in
    elim c.else-port-eq0.branch [
      | else-port-eq0-via-then-port-eq0+then-port-eq0-2+else-has_port w ↦ let z : ◌≡◌ {A = Bool} false true = sym w.if-has_port.false ∙ w.has_port.ensures.1 (subst (λ o. Contains c.args.effects.now (Port o)) (sym k.0) fed.2) in absurd (cc)
      | else-port-eq0-via-then-port-eq0+else-port-eq0-2 w ↦ let n = w.if-port-eq0-2.false in absurd (omega arith)
      | else-port-eq0-via-else-port-eq0 w ↦ let n = w.if-port-eq0.false in absurd (omega arith)
    ]
