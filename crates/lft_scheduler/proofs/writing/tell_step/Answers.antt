use Rattle.std.proofs.Common.{◌≡◌, ℕ, sym, subst, rules}
use Rattle.lft_ir.specs.declared.{parts.{Name.TheVariants.Port, Trigger.TheVariants.On}, steps.row.Step.{Step, TheVariants.Write}}
use Rattle.lft_scheduler.specs.inner.{Listeners.IsListener, Telling.{IsTold, ArrivesAtOnce}}
use Rattle.lft_scheduler.proofs.writing.tell_step.Goals as goal

pub returns-in-Write-Port-default : goal.returns-in-Write-Port-default
returns-in-Write-Port-default c =
    let v = c.in-Write-Port-default.field-1 in
    let z : c.args.step ≡ Write (Port c.in-Write-Port-default.origin) v = search rules in
    subst (λ (s : Step). IsTold (λ r. (p : ℕ) × ArrivesAtOnce c.args.plan.now.program c.args.tag s p × IsListener c.args.plan.now.program (On (Port p)) r) c.args.turn.now c.tell_write.new.turn) (sym z) (c.tell_write.ensures v)
