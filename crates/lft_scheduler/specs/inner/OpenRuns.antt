-- The open runs of a recording, as a list of their workers, tags, reactions and reads.
use Rattle.std.specs.Prelude.{◌≡◌, ℕ, Bool, ◌&&◌, ◌==◌, List, Option, Some, length, slice_get}
use Rattle.lft_tag.specs.{declared.Tag.Tag, Tags.same_tag}
use Rattle.lft_ir.specs.declared.{parts.Value.Value, steps.row.Row.Row}
use Rattle.lft_model.specs.{Plans.PlanParts, Runs.reads_at, Breaches.IsOpen}
use Rattle.lft_scheduler.specs.declared.open.OpenRun.{OpenRun}

-- the test of a run being that of r at g by worker w
abbrev pub is_run : ℕ → Tag → ℕ → OpenRun → Bool
is_run w g r o = ((w == o.worker) && same_tag g o.tag) && (r == o.reaction)

-- the runs are the open ones, with what they read
pub record AreOpen (plan : PlanParts) (t : List Row) (runs : List OpenRun) : Type 0 where
  pub each : (k : ℕ) (o : OpenRun) → slice_get runs k ≡ Some o → IsOpen t (length t) o.worker o.tag o.reaction × (o.reads ≡ reads_at plan t o.tag o.reaction)
  pub all : (w : ℕ) (g : Tag) (r : ℕ) → IsOpen t (length t) w g r → (k : ℕ) × (o : OpenRun) × (slice_get runs k ≡ Some o) × (o.worker ≡ w) × (o.tag ≡ g) × (o.reaction ≡ r)

-- the run of r at g by worker w is open, and read this
abbrev pub HasReads : PlanParts → List Row → ℕ → Tag → ℕ → List (Option Value) → Type 0
HasReads plan t w g r reads = IsOpen t (length t) w g r × (reads ≡ reads_at plan t g r)
