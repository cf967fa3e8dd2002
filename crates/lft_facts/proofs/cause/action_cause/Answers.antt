use Rattle.std.proofs.Common.{◌≡◌, ◌+◌, ℕ, length, ap, ◌∙◌, subst, Some, None}
use Rattle.lft_tag.specs.Shifts.{Folded}
use Rattle.lft_ir.specs.Parts.{Parts}
use Rattle.lft_rows.specs.inner.Presence.Causes.{IsLastCause}
use Rattle.lft_facts.proofs.Causes.{action_holds, action_gives, none_acting}
use Rattle.lft_facts.proofs.cause.action_cause.Goals as goal

pub returns-in-Some-clause-holds : goal.returns-in-Some-clause-holds
returns-in-Some-clause-holds c =
    let plan = c.args.plan.now in
    let t = c.args.rows.now in
    let many : c.ports.result ≡ length plan.program.ports = c.ports.ensures.count ∙ ap (λ (p : Parts). length p.ports) c.program.ensures.value in
    let last : IsLastCause plan t (length plan.program.ports + c.args.action) (0, 0) c.args.tag (Some c.in-Some.cause) = subst (λ (s : Folded). IsLastCause plan t (length plan.program.ports + c.args.action) s c.args.tag (Some c.in-Some.cause)) c.none.ensures (subst (λ (n : ℕ). IsLastCause plan t (n + c.args.action) (c.none.result.time, c.none.result.steps) c.args.tag (Some c.in-Some.cause)) many (c.in-Some.ensures plan t c.requires.causes)) in
    action_holds plan t c.requires.fit c.args.tag c.args.action c.in-Some.cause last.0 last.1 c.of_action.result c.of_action.ensures.row c.of_action.ensures.event

pub returns-in-Some-clause-gives : goal.returns-in-Some-clause-gives
returns-in-Some-clause-gives c = action_gives (length c.args.rows.now) c.in-Some.cause.place c.args.tag c.args.action c.of_action.result c.of_action.ensures.row c.of_action.ensures.event

pub returns-in-None-clause-none : goal.returns-in-None-clause-none
returns-in-None-clause-none c =
    let plan = c.args.plan.now in
    let t = c.args.rows.now in
    let many : c.ports.result ≡ length plan.program.ports = c.ports.ensures.count ∙ ap (λ (p : Parts). length p.ports) c.program.ensures.value in
    none_acting plan t c.requires.fit c.args.tag c.args.action (subst (λ (s : Folded). IsLastCause plan t (length plan.program.ports + c.args.action) s c.args.tag None) c.none.ensures (subst (λ (n : ℕ). IsLastCause plan t (n + c.args.action) (c.none.result.time, c.none.result.steps) c.args.tag None) many (c.in-None.ensures plan t c.requires.causes)))
