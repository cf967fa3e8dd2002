-- What a run answered for each port and each action, as it is kept. This serves the look-up of answers alone.
use Rattle.std.specs.Prelude.{◌≡◌, ℕ, List, length, Option, Some, None, slice_get, unwrap_or}
use Rattle.std.specs.{BTreeMap.{BTreeMap, get}, Ordering.nat_cmp}
use Rattle.lft_ir.specs.declared.parts.Value.{Value}
use Rattle.lft_pair.specs.inner.Answering.{writing as step_writing, scheduling as step_scheduling, place_cmp}
use Rattle.lft_pair.specs.declared.contrasting.contrasts.{Placed.Placed, LastWrite.LastWrite, Scheduling.Scheduling}
use Rattle.lft_pair.specs.Runs.{write, last_write, scheduling, schedulings}

abbrev pub writing_at : ℕ → Option (ℕ × Value) → Option (ℕ × LastWrite)
writing_at i None = None
writing_at i (Some x) = Some (x.0, write i x.1)

-- the port that a row writes, with the write
abbrev pub writing : Placed → Option (ℕ × LastWrite)
writing x = writing_at x.row (step_writing x.step)

abbrev pub scheduled_at : ℕ → Option (ℕ × (ℕ × Value)) → Option (ℕ × Scheduling)
scheduled_at i None = None
scheduled_at i (Some x) = Some (x.0, scheduling i x.1)

-- the action that a row schedules, with the scheduling
abbrev pub action_scheduled : Placed → Option (ℕ × Scheduling)
action_scheduled x = scheduled_at x.row (step_scheduling x.step)

-- the map has the last write of each port
abbrev pub AreLastWrites : List Placed → BTreeMap ℕ LastWrite → Type 0
AreLastWrites run map = (p : ℕ) → get nat_cmp map p ≡ last_write run p

-- the one map has how many schedulings each action has, the other has each under its action and its place among these
pub record AreSchedulings (run : List Placed) (counts : BTreeMap ℕ ℕ) (items : BTreeMap (ℕ × ℕ) Scheduling) : Type 0 where
  pub count : (a : ℕ) → unwrap_or (get nat_cmp counts a) 0 ≡ length (schedulings run a)
  pub each : (a k : ℕ) → get place_cmp items (a, k) ≡ slice_get (schedulings run a) k

-- the writes and the schedulings of a run
pub record AreEffectsOfRun (run : List Placed) (writes : BTreeMap ℕ LastWrite) (counts : BTreeMap ℕ ℕ) (items : BTreeMap (ℕ × ℕ) Scheduling) : Type 0 where
  pub written : AreLastWrites run writes
  pub scheduled : AreSchedulings run counts items
