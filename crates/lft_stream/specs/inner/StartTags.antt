-- At which tag each reaction started last.
use Rattle.std.specs.Prelude.{◌≡◌, ℕ, List, length, Option, Some, slice_get}
use Rattle.lft_tag.specs.declared.Tag.{Tag}
use Rattle.lft_ir.specs.{Parts.Parts, declared.steps.row.Row.Row}
use Rattle.lft_model.specs.Runs.{Ran}

-- the tag that is kept of a reaction is one at which it has a run
pub record AreStartTags (program : Parts) (t : List Row) (starts : List (Option Tag)) : Type 0 where
  pub as_long : length starts ≡ length program.reactions
  pub each : (r : ℕ) (g : Tag) → slice_get starts r ≡ Some (Some g) → Ran t g r
