-- Inside: the first row that breaks one of the rules 1 to 5.
use Rattle.std.specs.Prelude.{List, Option, MatchOption}
use Rattle.lft_tag.specs.declared.Tag.{Tag}
use Rattle.lft_ir.specs.declared.steps.row.Row.{Row}
use Rattle.lft_model.specs.{declared.breach.Breach.Breach, Plans.PlanParts, Breaches.RowBreachUntil}
use Rattle.lft_rows.specs.Firsts.{IsFirstOfRows}

-- the first row that breaks one of the rules 1 to 5, with the least of these rules, if any, where the stop tag is last
abbrev pub FirstRow : Tag → PlanParts → List Row → Option Breach → Type 0
FirstRow last plan t o = MatchOption o ((c : Breach) → ¬ RowBreachUntil last plan t c) (IsFirstOfRows last plan t)
