-- What the clauses of single steps see of a card's record: its fields by their names.
use Rattle.std.specs.Prelude.{◌≡◌, ℕ, true, false}
use Rattle.lft_ir.specs.{Names.IsNamed, Parts.Parts}
use Rattle.lft_record.specs.CardTables.{CardFields, HasBadValue, IsCardOfKind, IsUnknown, has_numbers_in_limits, is_wrongly_filled}
use Rattle.lft_record.specs.declared.cards.{card.Card.Card, fault.CardFault.CardFault, fields.CardFields.CardFields as FieldsHeld, kind.CardKind.CardKind}
use Rattle.lft_ir.specs.declared.found.Found.TheVariants as found
use Rattle.lft_record.specs.declared.cards.fault.CardFault.TheVariants as fault

-- the fields of a record, by their names
abbrev pub card_fields : FieldsHeld → CardFields
card_fields c = record { kind = c.kind.now; reaction = c.reaction.now; name = c.name.now; delay = c.delay.now; value = c.value.now }

-- the card of a record of this kind
abbrev pub IsCardOf : Parts → CardKind → CardFields → Card → Type 0
IsCardOf program k c card = IsNamed program.names (found.Reaction card.reaction) c.reaction × IsCardOfKind program k c card.reaction card.entry

-- the first fault of a record of this kind
abbrev pub FieldFault : Parts → CardKind → ℕ → CardFields → CardFault → Type 0
FieldFault program k line c (fault.BadNumber n) = (n ≡ line) × (has_numbers_in_limits k c ≡ false)
FieldFault program k line c (fault.UnknownName n) = (n ≡ line) × (has_numbers_in_limits k c ≡ true) × IsUnknown program k c
FieldFault program k line c (fault.FieldInPlace n) = (n ≡ line) × (has_numbers_in_limits k c ≡ true) × (IsUnknown program k c → ⊥) × (is_wrongly_filled k c ≡ true)
FieldFault program k line c (fault.BadValue n) = (n ≡ line) × (has_numbers_in_limits k c ≡ true) × (IsUnknown program k c → ⊥) × (is_wrongly_filled k c ≡ false) × HasBadValue program k c
FieldFault program k line c e = ⊥
