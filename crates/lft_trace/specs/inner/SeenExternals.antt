-- What the clauses of single steps see of a record of external inputs: its fields by their names, and its numbers.
use Rattle.std.specs.Prelude.{◌≡◌, ◌≢◌, ◌∷◌, ℕ, List, filter_map, option_to_list, Option, Some, None, true, false}
use Rattle.std.specs.List.Sorted.{IsPermutation}
use Rattle.lft_tag.specs.declared.Tag.{Tag}
use Rattle.lft_ir.specs.{Parts.Parts, declared.steps.externals.Event.Event}
use Rattle.lft_trace.specs.ExternalTables.{AreApart, Clash, ExternalFields, Has, IsUnknown, event_of, has_numbers, is_filled, stop_of}
use Rattle.lft_trace.specs.declared.{external_table.Entry.{Entry, TheVariants.{Happens, Stops}}, fault.TraceFault.TraceFault}
use Rattle.lft_trace.specs.declared.{fields.ExternalFields.ExternalFields as FieldsHeld, kind.EntryKind.EntryKind}
use Rattle.lft_trace.specs.declared.fault.TraceFault.TheVariants as fault

abbrev pub external_fields : FieldsHeld → ExternalFields
external_fields c = record { kind = c.kind.now; time = c.time.now; microstep = c.microstep.now; name = c.name.now; value = c.value.now }

-- the first fault of a record of this kind
abbrev pub FieldFault : Parts → EntryKind → ℕ → ExternalFields → TraceFault → Type 0
FieldFault program k line c (fault.BadNumber n) = (n ≡ line) × (has_numbers k c ≡ false)
FieldFault program k line c (fault.UnknownName n) = (n ≡ line) × (has_numbers k c ≡ true) × IsUnknown program k c
FieldFault program k line c (fault.FieldInPlace n) = (n ≡ line) × (has_numbers k c ≡ true) × (IsUnknown program k c → ⊥) × (is_filled k c ≡ true)
FieldFault program k line c e = ⊥

-- the entry is kept: the stop so far and the events from what they were
abbrev pub Keeps : Entry → Option Tag → List Event → Option Tag → List Event → Type 0
Keeps (Happens x) stop events stop_now events_now = (stop_now ≡ stop) × ((d : Event) → Has events d → Clash d x → ⊥) × IsPermutation (x ∷ events) events_now
Keeps (Stops g) stop events stop_now events_now = (stop ≡ None) × (stop_now ≡ Some g) × (events_now ≡ events)

-- the stop and the events are those of the entries, of which there is at most one stop, and no two events of one action at one tag
pub record AreKept (entries : List Entry) (stop : Option Tag) (events : List Event) : Type 0 where
  pub stops : filter_map stop_of entries ≡ option_to_list stop
  pub apart : AreApart (filter_map event_of entries)
  pub same : IsPermutation (filter_map event_of entries) events

-- the entry clashes with what was before
abbrev pub Refuses : Entry → Option Tag → List Event → ℕ → TraceFault → Type 0
Refuses (Happens x) stop events line e = (e ≡ fault.DuplicateExternal line) × ((d : Event) × Has events d × Clash d x)
Refuses (Stops g) stop events line e = (e ≡ fault.TwoStops line) × (stop ≢ None)
