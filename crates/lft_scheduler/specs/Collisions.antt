-- Collisions up to a stop.
use Rattle.std.specs.Prelude.{List}
use Rattle.lft_tag.specs.{declared.Tag.Tag, Tags.{Before, UpTo}}
use Rattle.lft_ir.specs.declared.steps.row.Row.{Row}
use Rattle.lft_model.specs.{Plans.PlanParts, Presence.{stop, Collision}}

-- g is the least tag up to the stop at which two causes give one port or action an event
pub record CollidesFirst (plan : PlanParts) (t : List Row) (g : Tag) : Type 0 where
  pub in_time : UpTo g (stop plan t)
  pub collides : Collision plan t g
  pub least : (h : Tag) → Before h g → ¬ Collision plan t h

-- no tag up to the stop has a collision
abbrev pub IsClean : PlanParts → List Row → Type 0
IsClean plan t = (g : Tag) → UpTo g (stop plan t) → ¬ Collision plan t g
