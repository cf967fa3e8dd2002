use Rattle.std.proofs.Common.{◌≡◌, ◌+◌, ℕ, length, subst, sym, ap, ◌∙◌, Some, slice_get, IfSome, IfNone}
use Rattle.lft_tag.specs.Shifts.{Folded}
use Rattle.lft_ir.specs.{Parts.Parts, declared.parts.Name.Name}
use Rattle.lft_model.specs.Presence.{At, IsPresent}
use Rattle.lft_rows.{specs.inner.Presence.Causes.IsValueFrom, proofs.PresenceLemmas.Presences.{chain_of, port_some, port_none, action_some, action_none}}
use Rattle.lft_rows.proofs.presence.events.Presence.value_at.Goals as goal

pub returns-in-Port-clause-some : goal.returns-in-Port-clause-some
returns-in-Port-clause-some c =
    let plan = c.args.self.now.plan in
    let port = c.port-port.result.now in
    let chain = chain_of plan.program c.program-program.ensures.fits.sound.sound c.in-Port.number port (subst (λ (p : Parts). slice_get p.ports c.in-Port.number ≡ Some port) c.program-program.ensures.value c.port-port.ensures.value) in
    subst (λ (n : Name). IfSome c.value_from.result (λ v. At plan c.args.self.now.rows c.args.tag n v)) (sym c.in-Port.is) (port_some plan c.args.self.now.rows c.args.tag c.in-Port.number port chain c.value_from.result c.value_from.ensures)

pub returns-in-Port-clause-none : goal.returns-in-Port-clause-none
returns-in-Port-clause-none c =
    let plan = c.args.self.now.plan in
    let port = c.port-port.result.now in
    let chain = chain_of plan.program c.program-program.ensures.fits.sound.sound c.in-Port.number port (subst (λ (p : Parts). slice_get p.ports c.in-Port.number ≡ Some port) c.program-program.ensures.value c.port-port.ensures.value) in
    subst (λ (n : Name). IfNone c.value_from.result (IsPresent plan c.args.self.now.rows c.args.tag n → ⊥)) (sym c.in-Port.is) (port_none plan c.args.self.now.rows c.args.tag c.in-Port.number port chain c.value_from.result c.value_from.ensures)

pub returns-in-Action-clause-some : goal.returns-in-Action-clause-some
returns-in-Action-clause-some c =
    let plan = c.args.self.now.plan in
    let t = c.args.self.now.rows in
    let o = c.value_from-in-Action.result in
    let many : c.ports.result ≡ length plan.program.ports = c.ports.ensures.count ∙ ap (λ (p : Parts). length p.ports) c.program-program.ensures.value in
    let from : IsValueFrom plan t (length plan.program.ports + c.in-Action.number) (0, 0) c.args.tag o = subst (λ (s : Folded). IsValueFrom plan t (length plan.program.ports + c.in-Action.number) s c.args.tag o) c.none.ensures (subst (λ (n : ℕ). IsValueFrom plan t (n + c.in-Action.number) (c.none.result.time, c.none.result.steps) c.args.tag o) many c.value_from-in-Action.ensures) in
    subst (λ (n : Name). IfSome o (λ v. At plan t c.args.tag n v)) (sym c.in-Action.is) (action_some plan t c.program-program.ensures.fits.fit c.args.tag c.in-Action.number o from)

pub returns-in-Action-clause-none : goal.returns-in-Action-clause-none
returns-in-Action-clause-none c =
    let plan = c.args.self.now.plan in
    let t = c.args.self.now.rows in
    let o = c.value_from-in-Action.result in
    let many : c.ports.result ≡ length plan.program.ports = c.ports.ensures.count ∙ ap (λ (p : Parts). length p.ports) c.program-program.ensures.value in
    let from : IsValueFrom plan t (length plan.program.ports + c.in-Action.number) (0, 0) c.args.tag o = subst (λ (s : Folded). IsValueFrom plan t (length plan.program.ports + c.in-Action.number) s c.args.tag o) c.none.ensures (subst (λ (n : ℕ). IsValueFrom plan t (n + c.in-Action.number) (c.none.result.time, c.none.result.steps) c.args.tag o) many c.value_from-in-Action.ensures) in
    subst (λ (n : Name). IfNone o (IsPresent plan t c.args.tag n → ⊥)) (sym c.in-Action.is) (action_none plan t c.program-program.ensures.fits.fit c.args.tag c.in-Action.number o from)
