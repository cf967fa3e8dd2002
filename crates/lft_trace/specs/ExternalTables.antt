-- Tables of external inputs: the events and the stop of their records, and their faults.
use Rattle.std.specs.Prelude.{◌≡◌, ◌≢◌, ◌≤◌, ◌⊎◌, ℕ, List, [], ◌∷◌, length, codes, slice_get, filter_map, Bool, true, false, not, ◌&&◌, ◌||◌, is_some, Option, Some, None}
use Rattle.std.specs.List.Sorted.{IsPermutation}
use Rattle.lft_ir.specs.{Names.IsNamed, Parts.Parts, declared.{parts.Action.Action as ActionOf, steps.externals.Event.Event}}
use Rattle.lft_ir.specs.Steps.Inputs.{ExternalInputs, InOrder}
use Rattle.lft_tag.specs.declared.Tag.{Tag}
use Rattle.lft_trace.specs.{Numbers.{number, value}, Traces.is_empty}
use Rattle.lft_trace.specs.declared.{external_table.Entry.{Entry, TheVariants.{Happens, Stops}}, fault.TraceFault.TraceFault, kind.EntryKind.EntryKind}
use Rattle.lft_tables.specs.Tables.{Fails, Holds, TableKind}
use Rattle.lft_ir.specs.declared.found.Found.TheVariants as found
use Rattle.lft_trace.specs.declared.fault.TraceFault.TheVariants as fault
use Rattle.lft_trace.specs.declared.kind.EntryKind.TheVariants as kind

-- the fields of a record of a table of external inputs
pub record ExternalFields : Type 0 where
  pub kind : List ℕ
  pub time : List ℕ
  pub microstep : List ℕ
  pub name : List ℕ
  pub value : List ℕ

abbrev pub in_order : ExternalFields → List (List ℕ)
in_order c = c.kind ∷ c.time ∷ c.microstep ∷ c.name ∷ c.value ∷ []

abbrev pub header : List (List ℕ)
header = codes "kind" ∷ codes "time" ∷ codes "microstep" ∷ codes "name" ∷ codes "value" ∷ []

-- how a kind is written
abbrev pub word : EntryKind → List ℕ
word kind.Event = codes "event"
word kind.Stop = codes "stop"

-- the physical action of this name
abbrev pub IsPhysical : Parts → List ℕ → ℕ → Type 0
IsPhysical program text a = IsNamed program.names (found.Action a) text × ((action : ActionOf) × (slice_get program.actions a ≡ Some action) × (action.physical ≡ true))

-- the tag of a record
abbrev pub IsTag : ExternalFields → Tag → Type 0
IsTag c g = (number 1000000000000000000 c.time ≡ Some g.time) × (number 1000000000 c.microstep ≡ Some g.micro)

-- the event or the stop of a record, by its kind
abbrev pub IsOfKind : Parts → EntryKind → ExternalFields → Entry → Type 0
IsOfKind program kind.Event c entry = (e : Event) × IsTag c e.tag × IsPhysical program c.name e.action × (value c.value ≡ Some e.value) × (entry ≡ Happens e)
IsOfKind program kind.Stop c entry = (g : Tag) × IsTag c g × (c.name ≡ []) × (c.value ≡ []) × (entry ≡ Stops g)

-- the event or the stop of a record
abbrev pub IsEntry : Parts → List (List ℕ) → Entry → Type 0
IsEntry program fields entry = (c : ExternalFields) × (k : EntryKind) × (fields ≡ in_order c) × (c.kind ≡ word k) × IsOfKind program k c entry

abbrev pub event_of : Entry → Option Event
event_of (Happens e) = Some e
event_of (Stops g) = None

abbrev pub stop_of : Entry → Option Tag
stop_of (Happens e) = None
stop_of (Stops g) = Some g

-- the event is one of these
abbrev pub Has : List Event → Event → Type 0
Has events e = (i : ℕ) × (slice_get events i ≡ Some e)

-- two events of one action at one tag
abbrev pub Clash : Event → Event → Type 0
Clash x y = (x.tag ≡ y.tag) × (x.action ≡ y.action)

-- no two events are of one action at one tag
abbrev pub AreApart : List Event → Type 0
AreApart events = (i j : ℕ) (x y : Event) → slice_get events i ≡ Some x → slice_get events j ≡ Some y → Clash x y → i ≡ j

-- each number that a record of this kind has is one, and within its limit
abbrev pub has_numbers : EntryKind → ExternalFields → Bool
has_numbers kind.Event c = is_some (number 1000000000000000000 c.time) && is_some (number 1000000000 c.microstep) && is_some (value c.value)
has_numbers kind.Stop c = is_some (number 1000000000000000000 c.time) && is_some (number 1000000000 c.microstep)

-- an event that isn't of a physical action
abbrev pub IsUnknown : Parts → EntryKind → ExternalFields → Type 0
IsUnknown program kind.Event c = (a : ℕ) → IsPhysical program c.name a → ⊥
IsUnknown program kind.Stop c = ⊥

-- a field that must be empty isn't
abbrev pub is_filled : EntryKind → ExternalFields → Bool
is_filled kind.Event c = false
is_filled kind.Stop c = not (is_empty c.name) || not (is_empty c.value)

-- a record of this kind
abbrev pub IsOf : EntryKind → ExternalFields → List (List ℕ) → Type 0
IsOf k c fields = (fields ≡ in_order c) × (c.kind ≡ word k)

-- the fault of a record after the entries of those before it: the first that it has, in the order count, kind, number, name, field in place, and then an event given before or a second stop
abbrev pub FaultAt : Parts → List Entry → ℕ → List (List ℕ) → TraceFault → Type 0
FaultAt program before line fields (fault.BadFieldCount n) = (n ≡ line) × (length fields ≢ 5)
FaultAt program before line fields (fault.BadEvent n) = (n ≡ line) × (c : ExternalFields) × (fields ≡ in_order c) × ((k : EntryKind) → c.kind ≢ word k)
FaultAt program before line fields (fault.BadNumber n) = (n ≡ line) × (c : ExternalFields) × (k : EntryKind) × IsOf k c fields × (has_numbers k c ≡ false)
FaultAt program before line fields (fault.UnknownName n) = (n ≡ line) × (c : ExternalFields) × (k : EntryKind) × IsOf k c fields × (has_numbers k c ≡ true) × IsUnknown program k c
FaultAt program before line fields (fault.FieldInPlace n) = (n ≡ line) × (c : ExternalFields) × (k : EntryKind) × IsOf k c fields × (has_numbers k c ≡ true) × (IsUnknown program k c → ⊥) × (is_filled k c ≡ true)
FaultAt program before line fields (fault.DuplicateExternal n) = (n ≡ line) × (e : Event) × IsEntry program fields (Happens e) × (d : Event) × Has (filter_map event_of before) d × Clash d e
FaultAt program before line fields (fault.TwoStops n) = (n ≡ line) × (g : Tag) × IsEntry program fields (Stops g) × (filter_map stop_of before ≢ [])
FaultAt program before line fields e = ⊥

-- at most one stop, and no two events of one action at one tag
abbrev pub AreTogether : List Entry → Type 0
AreTogether entries = (length (filter_map stop_of entries) ≤ 1) × AreApart (filter_map event_of entries)

-- tables of external inputs
abbrev pub external_tables : Parts → TableKind Entry TraceFault
external_tables program = record { header = header; Tells = IsEntry program; Together = AreTogether; FaultAt = FaultAt program; no_header = fault.BadHeader; too_many = fault.TooManyRows }

-- the records are the header and those of the events, in any order, and of one stop; no two events are of one action at one tag
pub record ExternalTable (program : Parts) (records : List (List (List ℕ))) (inputs : ExternalInputs) : Type 0 where
  pub entries : List Entry
  pub holds : Holds (external_tables program) records entries
  pub one_stop : filter_map stop_of entries ≡ inputs.stop ∷ []
  pub apart : AreApart (filter_map event_of entries)
  pub same : IsPermutation (filter_map event_of entries) inputs.events
  pub order : InOrder inputs.events

-- no record has a fault, and none is a stop
pub record HasNoStop (program : Parts) (records : List (List (List ℕ))) : Type 0 where
  pub entries : List Entry
  pub holds : Holds (external_tables program) records entries
  pub apart : AreApart (filter_map event_of entries)
  pub none : filter_map stop_of entries ≡ []

-- the fault of records that are no such table: no header, else the fault of the least line, else too many rows, else no stop
abbrev pub ExternalFails : Parts → List (List (List ℕ)) → TraceFault → Type 0
ExternalFails program records e = Fails (external_tables program) records e ⊎ ((e ≡ fault.NoStop) × HasNoStop program records)
