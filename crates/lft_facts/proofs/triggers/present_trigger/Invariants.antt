use Rattle.std.proofs.Common.{◌≡◌, ℕ, ◌<◌, Some, slice_get}
use Rattle.lft_ir.specs.declared.parts.Trigger.{Trigger}
use Rattle.lft_model.specs.Presence.{Occurs}
use Rattle.lft_facts.proofs.triggers.present_trigger.Given as goal

abbrev pub invariant-loop-place : goal.invariant-loop-place
invariant-loop-place l = (k : ℕ) (x : Trigger) → k < l.place → slice_get l.triggers k ≡ Some x → ¬ Occurs l.plan l.rows l.tag x
