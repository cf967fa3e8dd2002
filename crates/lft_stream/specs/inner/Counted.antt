-- The numbers that an acceptance tells.
use Rattle.std.specs.Prelude.{◌≡◌, ℕ, List, length}
use Rattle.lft_tag.specs.declared.Tag.{Tag}
use Rattle.lft_ir.specs.declared.steps.row.Row.{Row}
use Rattle.lft_model.specs.Accepted.{runs_in, AreTags}

-- how many runs the rows have, and how many different tags with a run
pub record AreRunsCounted (t : List Row) (runs tags : ℕ) : Type 0 where
  pub runs_are : runs ≡ runs_in t
  pub tags_are : (gs : List Tag) × AreTags t gs × (tags ≡ length gs)
