use Rattle.std.proofs.Common.{◌≡◌, ◌+◌, ℕ, length, refl, ap, subst, sym, Some, slice_get}
use Rattle.lft_tag.specs.Shifts.{Folded}
use Rattle.lft_ir.specs.{Parts.Parts, declared.parts.Name.Name}
use Rattle.lft_rows.proofs.PresenceLemmas.Presences.{IsKey}
use Rattle.lft_check.proofs.ByTagLemmas.Absent.{absent_by}
use Rattle.lft_check.proofs.by_tag.sliced.Sliced.first_from.Goals as goal

pub returns-in-Port : goal.returns-in-Port
returns-in-Port c =
    let cut = c.args.self.now in
    let rules = c.program-program.ensures.rules in
    let port = c.port-port.result.now in
    let there = subst (λ (p : Parts). slice_get p.ports c.in-Port.number ≡ Some port) c.program-program.ensures.value c.port-port.ensures.value in
    let key : IsKey cut.plan.program c.args.name port.origin (port.shift.time, port.shift.steps) = subst (λ (n : Name). IsKey cut.plan.program n port.origin (port.shift.time, port.shift.steps)) (sym c.in-Port.is) (port, there, refl, refl) in
    absent_by cut.plan cut.rows rules.sound.sound rules.fit c.args.tag c.args.name port.origin (port.shift.time, port.shift.steps) key c.first_led.result c.first_led.ensures

pub returns-in-Action : goal.returns-in-Action
returns-in-Action c =
    let cut = c.args.self.now in
    let rules = c.program-program.ensures.rules in
    let s : Folded = (c.none.result.time, c.none.result.steps) in
    let count : c.ports.result ≡ length cut.plan.program.ports = subst (λ (p : Parts). c.ports.result ≡ length p.ports) c.program-program.ensures.value c.ports.ensures.count in
    let key : IsKey cut.plan.program c.args.name (c.ports.result + c.in-Action.number) s = subst (λ (n : Name). IsKey cut.plan.program n (c.ports.result + c.in-Action.number) s) (sym c.in-Action.is) (ap (λ (k : ℕ). k + c.in-Action.number) count, search rules) in
    absent_by cut.plan cut.rows rules.sound.sound rules.fit c.args.tag c.args.name (c.ports.result + c.in-Action.number) s key c.first_led-in-Action.result c.first_led-in-Action.ensures
