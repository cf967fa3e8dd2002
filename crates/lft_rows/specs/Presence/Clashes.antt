-- What collides: pairs of causes of a name, and the tags to which they lead.
use Rattle.std.specs.Prelude.{Option}
use Rattle.lft_tag.specs.{declared.Tag.Tag, Tags.UpTo}
use Rattle.lft_model.specs.Presence.{stop, Collision}
use Rattle.lft_rows.specs.Presence.Traces.{TraceParts, LeastTag}

-- there is a collision at g, which is up to the stop
pub record ClashesIn (cut : TraceParts) (g : Tag) : Type 0 where
  pub in_time : UpTo g (stop cut.plan cut.rows)
  pub clash : Collision cut.plan cut.rows g

-- the least tag up to the stop with a collision, if any
abbrev pub IsClash : TraceParts → Option Tag → Type 0
IsClash cut o = LeastTag (ClashesIn cut) o
