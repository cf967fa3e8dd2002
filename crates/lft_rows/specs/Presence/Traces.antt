-- A trace of a plan, the least tag of a kind, and what is due.
use Rattle.std.specs.Prelude.{◌≡◌, ℕ, ◌<◌, List, Option, Some, MatchOption, slice_get}
use Rattle.lft_tag.specs.{declared.Tag.Tag, Tags.UpTo}
use Rattle.lft_ir.specs.declared.steps.row.Row.{Row}
use Rattle.lft_model.specs.{Plans.PlanParts, Presence.Triggered}

-- a plan and the rows of one of its traces
pub record TraceParts : Type 0 where
  pub plan : PlanParts
  pub rows : List Row

-- of the tags of a kind the least, if any
abbrev pub LeastTag : (Tag → Type 0) → Option Tag → Type 0
LeastTag P o = MatchOption o ((g : Tag) → ¬ P g) (λ g. P g × ((h : Tag) → P h → UpTo g h))

-- the reactions that are triggered at g, ascending
pub record AreDue (cut : TraceParts) (g : Tag) (due : List ℕ) : Type 0 where
  pub ascending : (j k a b : ℕ) → j < k → slice_get due j ≡ Some a → slice_get due k ≡ Some b → a < b
  pub triggered : (k a : ℕ) → slice_get due k ≡ Some a → Triggered cut.plan cut.rows g a
  pub each : (a : ℕ) → Triggered cut.plan cut.rows g a → (k : ℕ) × (slice_get due k ≡ Some a)
