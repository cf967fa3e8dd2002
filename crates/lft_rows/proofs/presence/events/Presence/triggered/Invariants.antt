use Rattle.std.proofs.Common.{◌≡◌, ℕ, ◌<◌, Some, slice_get}
use Rattle.lft_ir.specs.declared.parts.Trigger.{Trigger}
use Rattle.lft_model.specs.Presence.{Occurs}
use Rattle.lft_rows.proofs.presence.events.Presence.triggered.Given as goal

abbrev pub invariant-loop-place : goal.invariant-loop-place
invariant-loop-place l = (j : ℕ) (trigger : Trigger) → j < l.place → slice_get l.triggers j ≡ Some trigger → ¬ Occurs l.self.plan l.self.rows l.tag trigger
