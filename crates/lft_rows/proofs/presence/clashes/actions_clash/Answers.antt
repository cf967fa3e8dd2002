use Rattle.std.proofs.Common.{◌≡◌, ℕ, length, ap, ◌∙◌, subst, arith}
use Rattle.lft_ir.specs.Parts.{Parts}
use Rattle.lft_rows.{specs.{Presence.Traces.LeastTag, inner.Presence.Clashes.ActionsClash}, proofs.PresenceLemmas.Collisions.actions_more}
use Rattle.lft_rows.proofs.presence.clashes.actions_clash.Goals as goal

pub loop-action-preserved : goal.loop-action-preserved
loop-action-preserved c = actions_more c.args.plan.now c.args.rows.now c.loop-action.action c.loop-action.least c.action_clash.result c.sooner-least.result c.loop-action.invariant c.action_clash.ensures c.sooner-least.ensures

pub returns : goal.returns
returns c =
    let count : c.actions-action-end.result ≡ length c.args.plan.now.program.actions = c.actions-action-end.ensures.count ∙ ap (λ (p : Parts). length p.actions) c.program.ensures.value in
    let end : c.loop-action.action ≡ length c.args.plan.now.program.actions = omega (arith, count) in
    subst (λ (n : ℕ). LeastTag (ActionsClash c.args.plan.now c.args.rows.now n) c.loop-action.least) end c.loop-action.invariant
