-- Inside: a trace of a plan, the least tag of a kind, and what is due.
use Rattle.std.specs.Prelude.{◌≡◌, ◌⊎◌, Option, Some, None}
use Rattle.lft_tag.specs.{declared.Tag.Tag, Tags.{Before, UpTo}}
use Rattle.lft_ir.specs.Steps.Fits.{RowsFit}
use Rattle.lft_model.specs.Plans.{IsSoundPlan}
use Rattle.lft_rows.specs.Presence.Traces.{TraceParts}

-- the plan is sound, and the rows are of its program
pub record IsFitting (cut : TraceParts) : Type 0 where
  pub sound : IsSoundPlan cut.plan
  pub fit : RowsFit cut.plan.program cut.rows

-- the earlier of two tags, of those that are
abbrev pub IsSooner : Option Tag → Option Tag → Option Tag → Type 0
IsSooner None o r = r ≡ o
IsSooner (Some a) None r = r ≡ Some a
IsSooner (Some a) (Some b) r = (r ≡ Some a) × UpTo a b ⊎ (r ≡ Some b) × Before b a
