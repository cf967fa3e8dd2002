use Rattle.std.proofs.Common.{ℕ, ◌<◌, get_or}
use Rattle.lft_ir.specs.declared.parts.Trigger.TheVariants.{Startup}
use Rattle.lft_model.specs.Presence.{OccursUntil}
use Rattle.lft_model.proofs.slow.triggered_slow.Given as goal

abbrev pub invariant-loop-place : goal.invariant-loop-place
invariant-loop-place l = (j : ℕ) → j < l.place → ¬ OccursUntil l.stop l.plan l.rows l.tag (get_or l.triggers j Startup)
