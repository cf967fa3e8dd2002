-- The first row that breaks one of the rules 1 to 5.
use Rattle.std.specs.Prelude.{List}
use Rattle.lft_tag.specs.declared.Tag.{Tag}
use Rattle.lft_ir.specs.declared.steps.row.Row.{Row}
use Rattle.lft_model.specs.{declared.breach.Breach.Breach, Plans.PlanParts, Breaches.{RowBreachUntil, RowOrder}}

-- of the row breaches b is the first, where the stop tag is last
pub record IsFirstOfRows (last : Tag) (plan : PlanParts) (t : List Row) (b : Breach) : Type 0 where
  pub breaks : RowBreachUntil last plan t b
  pub least : (c : Breach) → RowBreachUntil last plan t c → RowOrder b c
