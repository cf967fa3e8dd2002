use Rattle.std.proofs.Common.{◌≡◌, ◌+◌, ℕ, false, length, Some, None, sym, ap, ◌∙◌, subst}
use Rattle.lft_tag.specs.declared.Tag.{Tag}
use Rattle.lft_ir.specs.Parts.{Parts}
use Rattle.lft_rows.specs.{Presence.Traces.LeastTag, inner.Presence.Clashes.{HasTwo, IsFirstPair}}
use Rattle.lft_rows.proofs.PresenceLemmas.Collisions.{action_pair, action_no_pair}
use Rattle.lft_rows.proofs.presence.clashes.action_clash.Goals as goal

pub returns-in-Some : goal.returns-in-Some
returns-in-Some c =
    let plan = c.args.plan.now in
    let count : c.ports.result ≡ length plan.program.ports = c.ports.ensures.count ∙ ap (λ (p : Parts). length p.ports) c.program.ensures.value in
    let pair : IsFirstPair c.args.causes.now false (c.ports.result + c.args.number) (Some c.in-Some.cause) = c.in-Some.ensures in
    subst (λ (z : Tag). LeastTag (λ g. HasTwo plan c.args.rows.now g c.args.number) (Some z)) (sym c.cause_tag.ensures) (action_pair plan c.args.rows.now c.requires.fit c.args.causes.now c.requires.causes c.args.number c.in-Some.cause (subst (λ (n : ℕ). IsFirstPair c.args.causes.now false (n + c.args.number) (Some c.in-Some.cause)) count pair))

pub returns-in-None : goal.returns-in-None
returns-in-None c =
    let plan = c.args.plan.now in
    let count : c.ports.result ≡ length plan.program.ports = c.ports.ensures.count ∙ ap (λ (p : Parts). length p.ports) c.program.ensures.value in
    let pair : IsFirstPair c.args.causes.now false (c.ports.result + c.args.number) None = c.in-None.ensures in
    action_no_pair plan c.args.rows.now c.requires.fit c.args.causes.now c.requires.causes c.args.number (subst (λ (n : ℕ). IsFirstPair c.args.causes.now false (n + c.args.number) None) count pair)
