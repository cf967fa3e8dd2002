-- What is kept of the events of a trace beside its plan and rows. This serves the invariant of `Presence` alone.
use Rattle.std.specs.Prelude.{◌≡◌, ◌≤◌, List, Option}
use Rattle.lft_tag.specs.declared.Tag.{Tag}
use Rattle.lft_model.specs.Presence.{stop}
use Rattle.lft_rows.specs.{declared.presence.causes.EventCause.EventCause, inner.Presence.{Causes.AreCauses, Traces.IsFitting}}
use Rattle.lft_rows.specs.Presence.{Clashes.IsClash, Traces.TraceParts}

-- the stop, the causes and the first collision that are kept are those of the plan and the rows
pub record IsKept (cut : TraceParts) (last : Tag) (causes : List EventCause) (clash : Option Tag) : Type 0 where
  pub fits : IsFitting cut
  pub stop_is : last ≡ stop cut.plan cut.rows
  pub limit : last.time ≤ 1000000000000000000
  pub caused : AreCauses cut.plan cut.rows causes
  pub clash_is : IsClash cut clash
