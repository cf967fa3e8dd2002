-- The events that are pending in a recording.
use Rattle.std.specs.Prelude.{◌≡◌, ◌↔◌, ℕ, List, Some, slice_get}
use Rattle.lft_tag.specs.{declared.Tag.Tag, Tags.UpTo}
use Rattle.lft_ir.specs.declared.{parts.{Value.Value, Name.Name}, steps.row.Row.Row}
use Rattle.lft_model.specs.{Plans.PlanParts, Presence.{At, stop}}
use Rattle.lft_pool.specs.Books.{BookParts}

-- an event is pending: by the rows so far and the external inputs the port or action has the value at the tag, no row is after that tag, and the stop isn't before it
pub record IsPendingEvent (plan : PlanParts) (t : List Row) (g : Tag) (n : Name) (v : Value) : Type 0 where
  pub comes : At plan t g n v
  pub ahead : (i : ℕ) (x : Row) → slice_get t i ≡ Some x → UpTo x.tag g
  pub in_time : UpTo g (stop plan t)

-- the events that are pending in one book are those that are pending in the other
abbrev pub SamePending : BookParts → BookParts → Type 0
SamePending old new = (g : Tag) (n : Name) (v : Value) → IsPendingEvent old.plan old.rows g n v ↔ IsPendingEvent new.plan new.rows g n v
