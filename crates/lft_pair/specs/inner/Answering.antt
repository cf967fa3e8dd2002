-- What the steps of a run answer for each port and each action. This serves the comparison of answers alone.
use Rattle.std.specs.Prelude.{◌≡◌, ℕ, List, Option, Some, None, filter_map, slice_get}
use Rattle.std.specs.{BTreeMap.{BTreeMap, IsOrdered, get}, List.last_or, Ordering.{nat_cmp, ordering_then}, declared.cmp.Ordering.Ordering}
use Rattle.lft_ir.specs.declared.parts.{Name.{Name, TheVariants.{Port, Action}}, Value.Value}
use Rattle.lft_ir.specs.declared.steps.row.Step.{Step, TheVariants.{Start, Read, Write, Schedule, Stop, End}}
use Rattle.lft_model.specs.{Presence.{value_written, value_scheduled}, Runs.request_of}

-- the port that a step writes, with the value
abbrev pub writing_to : Name → Value → Option (ℕ × Value)
writing_to (Port p) v = Some (p, v)
writing_to (Action a) v = None

abbrev pub writing : Step → Option (ℕ × Value)
writing (Write n v) = writing_to n v
writing Start = None
writing (Read n v) = None
writing (Schedule n v d) = None
writing Stop = None
writing End = None

-- the action that a step schedules, with the extra delay and the value
abbrev pub scheduling_of : Name → Value → ℕ → Option (ℕ × (ℕ × Value))
scheduling_of (Port p) v d = None
scheduling_of (Action a) v d = Some (a, (d, v))

abbrev pub scheduling : Step → Option (ℕ × (ℕ × Value))
scheduling (Schedule n v d) = scheduling_of n v d
scheduling Start = None
scheduling (Read n v) = None
scheduling (Write n v) = None
scheduling Stop = None
scheduling End = None

-- the last value that some steps write to a port
abbrev pub last_to : List Step → ℕ → Option Value
last_to steps p = last_or None (filter_map (value_written p) steps)

-- both lists of steps write the same last value to each port
abbrev pub SameWritten : List Step → List Step → Type 0
SameWritten mine theirs = (p : ℕ) → last_to mine p ≡ last_to theirs p

-- both schedule the same for each action
abbrev pub SameScheduled : List Step → List Step → Type 0
SameScheduled mine theirs = (a : ℕ) → filter_map (value_scheduled a) mine ≡ filter_map (value_scheduled a) theirs

-- both answer the same
pub record SameAnswers (mine theirs : List Step) : Type 0 where
  pub stops : request_of mine ≡ request_of theirs
  pub written : SameWritten mine theirs
  pub scheduled : SameScheduled mine theirs

-- the map has the last value that the steps write to each port
pub record AreWritten (steps : List Step) (map : BTreeMap ℕ Value) : Type 0 where
  pub ordered : IsOrdered nat_cmp map
  pub each : (p : ℕ) → get nat_cmp map p ≡ last_to steps p

-- by the action, then by the place
abbrev pub place_cmp : ℕ × ℕ → ℕ × ℕ → Ordering
place_cmp x y = ordering_then (nat_cmp x.0 y.0) (nat_cmp x.1 y.1)

-- the map has what the steps schedule for each action, each under its place among these
pub record AreScheduled (steps : List Step) (map : BTreeMap (ℕ × ℕ) (ℕ × Value)) : Type 0 where
  pub ordered : IsOrdered place_cmp map
  pub each : (a k : ℕ) → get place_cmp map (a, k) ≡ slice_get (filter_map (value_scheduled a) steps) k
