use Rattle.std.proofs.Common.{◌≡◌, ◌+◌, length, subst, sym, ap, ◌∙◌, Some, slice_get, refl}
use Rattle.lft_ir.specs.{Parts.Parts, declared.parts.Name.{Name, TheVariants.{Port, Action}}}
use Rattle.lft_rows.proofs.PresenceLemmas.Presences.{IsKey, cause_present}
use Rattle.lft_check.proofs.{ByTagLemmas.Walks.lacked_key, by_tag.missing.lacked_name.Goals.{After-port-port, After-none}}
use Rattle.lft_check.proofs.by_tag.missing.lacked_name.Goals as goal

port_key : (c : After-port-port) → IsKey c.args.presence.now.plan.program c.args.name c.port-port.result.now.origin (c.port-port.result.now.shift.time, c.port-port.result.now.shift.steps)
port_key c =
    let program = c.args.presence.now.plan.program in
    let port = c.port-port.result.now in
    let key : IsKey program (Port c.in-Port.number) port.origin (port.shift.time, port.shift.steps) = (port, subst (λ (p : Parts). slice_get p.ports c.in-Port.number ≡ Some port) c.program-program.ensures.value c.port-port.ensures.value, refl, refl) in
    subst (λ (n : Name). IsKey program n port.origin (port.shift.time, port.shift.steps)) (sym c.in-Port.is) key

action_key : (c : After-none) → IsKey c.args.presence.now.plan.program c.args.name (c.ports.result + c.in-Action.number) (c.none.result.time, c.none.result.steps)
action_key c =
    let program = c.args.presence.now.plan.program in
    let many : c.ports.result ≡ length program.ports = c.ports.ensures.count ∙ ap (λ (p : Parts). length p.ports) c.program-program.ensures.value in
    let key : IsKey program (Action c.in-Action.number) (c.ports.result + c.in-Action.number) (c.none.result.time, c.none.result.steps) = (ap (λ n. n + c.in-Action.number) many, c.none.ensures) in
    subst (λ (n : Name). IsKey program n (c.ports.result + c.in-Action.number) (c.none.result.time, c.none.result.steps)) (sym c.in-Action.is) key

pub lacked_cause-requires-clause-triggers : goal.lacked_cause-requires-clause-triggers
lacked_cause-requires-clause-triggers c g x is leads =
    let cut = c.args.presence.now in
    let fits = c.program-program.ensures.fits in
    c.requires.triggers g (cause_present cut.plan cut.rows fits.sound.sound fits.fit g c.args.name c.port-port.result.now.origin (c.port-port.result.now.shift.time, c.port-port.result.now.shift.steps) (port_key ((goal.at.lacked_cause-requires-clause-triggers c).After-port-port)) x is leads)

pub lacked_cause-requires-in-Action-clause-triggers : goal.lacked_cause-requires-in-Action-clause-triggers
lacked_cause-requires-in-Action-clause-triggers c g x is leads =
    let cut = c.args.presence.now in
    let fits = c.program-program.ensures.fits in
    c.requires.triggers g (cause_present cut.plan cut.rows fits.sound.sound fits.fit g c.args.name (c.ports.result + c.in-Action.number) (c.none.result.time, c.none.result.steps) (action_key ((goal.at.lacked_cause-requires-in-Action-clause-triggers c).After-none)) x is leads)

pub returns-in-Port-clause-least : goal.returns-in-Port-clause-least
returns-in-Port-clause-least c =
    let fits = c.program-program.ensures.fits in
    lacked_key c.args.presence.now fits.sound.sound fits.fit c.args.name c.port-port.result.now.origin (c.port-port.result.now.shift.time, c.port-port.result.now.shift.steps) c.args.low c.args.tags.now c.lacked_cause.result (port_key ((goal.at.returns-in-Port-clause-least c).After-port-port)) c.lacked_cause.ensures.least

pub returns-in-Action-clause-least : goal.returns-in-Action-clause-least
returns-in-Action-clause-least c =
    let fits = c.program-program.ensures.fits in
    lacked_key c.args.presence.now fits.sound.sound fits.fit c.args.name (c.ports.result + c.in-Action.number) (c.none.result.time, c.none.result.steps) c.args.low c.args.tags.now c.lacked_cause-in-Action.result (action_key ((goal.at.returns-in-Action-clause-least c).After-none)) c.lacked_cause-in-Action.ensures.least
