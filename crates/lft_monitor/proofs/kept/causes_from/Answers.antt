use Rattle.std.proofs.Common.{◌≡◌, ◌<◌, ◌⊎◌, ℕ, List, IsTrue, false, sym, subst, rules}
use Rattle.lft_tag.specs.Tags.{Before, after_all}
use Rattle.lft_ir.specs.{Parts.Parts, Origins.Origin, declared.{parts.Name.TheVariants.Port, steps.row.Step.TheVariants.Write}}
use Rattle.lft_queue.specs.inner.Reading.{is_read}
use Rattle.lft_monitor.{specs.inner.Kept.AreWaysOfWrites, proofs.Keeping.idle_write}
use Rattle.lft_monitor.proofs.kept.causes_from.Goals as goal

pub lead_on-requires-clause-ways : goal.lead_on-requires-clause-ways
lead_on-requires-clause-ways c = subst (λ (p : Parts). AreWaysOfWrites p c.args.ways.now) (sym c.program-in-Write-Port-default.ensures.value) c.requires.ways

pub returns-in-Write-Port-default : goal.returns-in-Write-Port-default
returns-in-Write-Port-default c = λ unheard.
    let plan = c.args.plan.now in
    let n = c.in-Write-Port-default.number in
    let v = c.in-Write-Port-default.field-1 in
    let step : c.args.row.step ≡ Write (Port n) v = search rules in
    let leads = subst (λ (program : Parts). (p : ℕ) (delays : List ℕ) → Origin program p n delays → Before (after_all c.args.row.tag delays) c.args.low ⊎ (is_read program p ≡ false) × IsTrue c.args.is_apart × (c.args.row.tag.time < c.args.low.time)) c.program-in-Write-Port-default.ensures.value (c.lead_on.ensures unheard) in
    idle_write plan c.args.low c.args.is_apart c.args.row n v step leads
