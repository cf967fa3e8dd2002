-- What was written last to each port.
use Rattle.std.specs.Prelude.{◌≡◌, ℕ, cond, List, length, Option, Some, None, slice_get}
use Rattle.lft_tag.specs.{declared.Tag.Tag, Tags.{Before, UpTo, same_tag}}
use Rattle.lft_ir.specs.{Parts.Parts, declared.{parts.Value.Value, steps.row.Row.Row}}
use Rattle.lft_queue.specs.{inner.Coming.Shown.last_write, declared.coming.writes.Written.Written}

-- the value of a write that is at the tag
abbrev pub value_at_tag : Tag → Option Written → Option Value
value_at_tag g None = None
value_at_tag g (Some w) = cond (same_tag g w.tag) (Some w.value) None

-- one by one the ports' last writes by the rows u at g; what else is kept is of earlier tags
pub record AreWrites (program : Parts) (u : List Row) (g : Tag) (writes : List (Option Written)) : Type 0 where
  pub as_long : length writes ≡ length program.ports
  pub up_to : (p : ℕ) (w : Written) → slice_get writes p ≡ Some (Some w) → UpTo w.tag g
  pub each : (p : ℕ) (w : Option Written) → slice_get writes p ≡ Some w → value_at_tag g w ≡ last_write u g p

-- each write that is kept is before the tag
pub record AreEarlierWrites (program : Parts) (g : Tag) (writes : List (Option Written)) : Type 0 where
  pub as_long : length writes ≡ length program.ports
  pub each : (p : ℕ) (w : Written) → slice_get writes p ≡ Some (Some w) → Before w.tag g

-- the same writes are kept, or fewer
pub record AreFewer (old new : List (Option Written)) : Type 0 where
  pub as_long : length new ≡ length old
  pub each : (p : ℕ) (w : Written) → slice_get new p ≡ Some (Some w) → slice_get old p ≡ Some (Some w)
