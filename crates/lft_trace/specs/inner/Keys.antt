-- External events as entries of a map.
use Rattle.std.specs.Prelude.{◌≡◌, ◌<◌, ℕ, List, [], length}
use Rattle.lft_ir.specs.{declared.{parts.Value.Value, steps.externals.Event.Event}, Steps.Inputs.InOrder}

-- the event of an entry: time, microstep and action, and the value
abbrev pub event_at : (ℕ × ℕ × ℕ) × Value → Event
event_at entry = record { tag = record { time = entry.0.0; micro = entry.0.1 }; action = entry.0.2; value = entry.1 }

-- the events of the list stand in order, and where the map has entries the list has none
pub record IsInOnePlace (list : List Event) (entries : List ((ℕ × ℕ × ℕ) × Value)) : Type 0 where
  pub order : InOrder list
  pub one : 0 < length entries → list ≡ []
