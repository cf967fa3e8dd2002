-- How far rows reach.
use Rattle.std.specs.Prelude.{◌≡◌, List, [], ◌∷◌, ◌++◌, length, Option, MatchOption}
use Rattle.lft_tag.specs.declared.Tag.{Tag}
use Rattle.lft_ir.specs.declared.steps.row.Row.{Row}
use Rattle.lft_model.specs.Accepted.{runs_in, AreTags}
use Rattle.lft_monitor.specs.declared.reach.Reach.{Reach}

-- the tag is the last of the tags; where there is none, there are no tags
abbrev pub IsLastOf : List Tag → Option Tag → Type 0
IsLastOf gs o = MatchOption o (gs ≡ []) (λ g. (before : List Tag) × (gs ≡ before ++ g ∷ []))

-- how many runs the rows have, at how many different tags, and the last of these tags
pub record IsReach (t : List Row) (r : Reach) : Type 0 where
  pub runs_are : r.runs ≡ runs_in t
  pub tags : List Tag
  pub tags_are : AreTags t tags
  pub many : r.tags ≡ length tags
  pub last : IsLastOf tags r.tag
