-- The names of a program's things as parts of one list. The name table's invariants alone need this file.
use Rattle.std.specs.Prelude.{◌≡◌, ℕ, ◌-◌, ◌^◌, ◌<◌, ◌≤◌, List, Some, slice_get, slice_range, length, nat_lt, if◌then◌else◌}
use Rattle.std.specs.Str.{IsUtf8}
use Rattle.lft_ir.specs.{Names.ThingNames, declared.{found.Found.Found, names.Starts.Starts}}
use Rattle.lft_ir.specs.declared.found.Found.TheVariants as found

-- each text of the list is UTF-8
abbrev pub AreUtf8 : List (List ℕ) → Type 0
AreUtf8 texts = (i : ℕ) (text : List ℕ) → slice_get texts i ≡ Some text → IsUtf8 text

-- the places where the kinds begin are in order and within the list, whose places are numbers of 32 bits
pub record AreStarts (s : Starts) (total : ℕ) : Type 0 where
  pub ports : s.ports ≤ s.actions
  pub actions : s.actions ≤ s.timers
  pub timers : s.timers ≤ s.reactions
  pub reactions : s.reactions ≤ total
  pub total_fits : total < 2 ^ 32

-- the names of instances, ports, actions, timers and reactions one after another
abbrev pub names_from : List (List ℕ) → Starts → ThingNames
names_from texts s = record {
  instances = slice_range texts 0 s.ports;
  ports = slice_range texts s.ports s.actions;
  actions = slice_range texts s.actions s.timers;
  timers = slice_range texts s.timers s.reactions;
  reactions = slice_range texts s.reactions (length texts);
}

-- the thing whose name stands at the place
abbrev pub thing_at : Starts → ℕ → Found
thing_at s place =
    if nat_lt place s.ports then found.Instance place else
    if nat_lt place s.actions then found.Port (place - s.ports) else
    if nat_lt place s.timers then found.Action (place - s.actions) else
    if nat_lt place s.reactions then found.Timer (place - s.timers) else
    found.Reaction (place - s.reactions)
