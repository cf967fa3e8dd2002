-- Who listens to a trigger.
use Rattle.std.specs.Prelude.{◌≡◌, ℕ, Some, slice_get, Contains}
use Rattle.lft_ir.specs.declared.parts.{Reaction.Reaction, Trigger.Trigger}
use Rattle.lft_model.specs.Plans.{PlanParts}

-- x is a trigger of reaction r
pub record Listens (plan : PlanParts) (r : ℕ) (x : Trigger) : Type 0 where
  pub reaction : Reaction
  pub is_reaction : slice_get plan.program.reactions r ≡ Some reaction
  pub is_trigger : Contains reaction.triggers x
