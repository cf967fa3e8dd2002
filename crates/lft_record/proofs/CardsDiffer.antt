-- A record has one card, or a fault of its own, and not both.
use Rattle.std.proofs.Common.{◌≡◌, ◌≢◌, ◌∙◌, inl, inr, ℕ, List, [], length, get_or, true, false, Some, refl, sym, ap}
use Rattle.std.specs.Prelude.{codes, if◌then◌else◌}
use Rattle.std.specs.Str.{bytes_eq}
use Rattle.lft_ir.specs.{Names.IsNamed, Parts.Parts, Sound.IsSound}
use Rattle.lft_record.specs.CardTables.{CardFields, HasBadValue, IsCard, IsContent, IsOf, IsCardOfKind, IsUnknown, IsUnspelled, has_numbers_in_limits, card_columns, is_wrongly_filled, word}
use Rattle.lft_record.specs.declared.cards.{card.{Card.Card, CardValue.CardValue, CardEntry.CardEntry}, kind.CardKind.CardKind}
use Rattle.lft_record.proofs.TermsDiffer.{one_expression, one_thing}
use Rattle.lft_ir.specs.declared.found.Found.TheVariants as found
use Rattle.lft_record.specs.declared.cards.card.CardStep.TheVariants as step
use Rattle.lft_record.specs.declared.cards.card.CardValue.TheVariants as content
use Rattle.lft_record.specs.declared.cards.card.CardEntry.TheVariants as entry
use Rattle.lft_record.specs.declared.cards.kind.CardKind.TheVariants as kind

-- the fields by their places
abbrev of_list : List (List ℕ) → CardFields
of_list xs = record { kind = get_or xs 0 []; reaction = get_or xs 1 []; name = get_or xs 2 []; delay = get_or xs 3 []; value = get_or xs 4 [] }

same_fields : (c d : CardFields) → card_columns c ≡ card_columns d → c ≡ d
same_fields c d h = ap of_list h

abbrev kind_of : List ℕ → CardKind
kind_of w = if bytes_eq w (codes "bodies") then kind.Bodies else if bytes_eq w (codes "write") then kind.Write else if bytes_eq w (codes "schedule") then kind.Schedule else if bytes_eq w (codes "stop") then kind.Stop else kind.State

kind_of_word : (k : CardKind) → kind_of (word k) ≡ k
kind_of_word kind.Bodies = refl
kind_of_word kind.Write = refl
kind_of_word kind.Schedule = refl
kind_of_word kind.Stop = refl
kind_of_word kind.State = refl

same_kind : (j k : CardKind) → word j ≡ word k → j ≡ k
same_kind j k h = sym (kind_of_word j) ∙ ap kind_of h ∙ kind_of_word k

one_reaction : (program : Parts) (text : List ℕ) (a b : ℕ) → IsSound program → IsNamed program.names (found.Reaction a) text → IsNamed program.names (found.Reaction b) text → a ≡ b
one_reaction program text a b sound x y = let e = sound.well_named.distinct (found.Reaction a) (found.Reaction b) text x y in cc e

one_content : (program : Parts) (r : ℕ) (text : List ℕ) (a b : CardValue) → IsSound program → IsContent program r text a → IsContent program r text b → a ≡ b
one_content program r text content.Bare content.Bare sound x y = refl
one_content program r text content.Bare (content.Int t) sound x y = absurd (y.0 x)
one_content program r text (content.Int s) content.Bare sound x y = absurd (x.0 y)
one_content program r text (content.Int s) (content.Int t) sound x y = ap content.Int (one_expression program r text s t sound x.1 y.1)

one_of_kind : (program : Parts) (k : CardKind) (c : CardFields) (r : ℕ) (a b : CardEntry) → IsSound program → IsCardOfKind program k c r a → IsCardOfKind program k c r b → a ≡ b
one_of_kind program kind.Bodies c r a b sound x y = let e : Some x.0 ≡ Some y.0 = sym x.1 ∙ y.1 in let n : x.0 ≡ y.0 = cc e in x.4 ∙ ap entry.Bodies n ∙ sym y.4
one_of_kind program kind.Write c r a b sound x y =
    let n = one_thing program c.name x.0 y.0 sound.well_named.distinct x.2 y.2 in
    let v = one_content program r c.value x.1 y.1 sound x.3 y.3 in
    x.5 ∙ (λ i. entry.Step (step.Write (n i) (v i))) ∙ sym y.5
one_of_kind program kind.Schedule c r a b sound x y =
    let n = one_thing program c.name x.0 y.0 sound.well_named.distinct x.3 y.3 in
    let v = one_content program r c.value x.1 y.1 sound x.4 y.4 in
    let q : Some x.2 ≡ Some y.2 = sym x.5 ∙ y.5 in
    let d : x.2 ≡ y.2 = cc q in
    x.6 ∙ (λ i. entry.Step (step.Schedule (n i) (v i) (d i))) ∙ sym y.6
one_of_kind program kind.Stop c r a b sound x y = x.3 ∙ sym y.3
one_of_kind program kind.State c r a b sound x y = x.4 ∙ ap entry.State (one_expression program r c.value x.0 y.0 sound x.1 y.1) ∙ sym y.4

pub one_card : (program : Parts) (fields : List (List ℕ)) (a b : Card) → IsSound program → IsCard program fields a → IsCard program fields b → a ≡ b
one_card program fields a b sound x y =
    let same : x.columns ≡ y.columns = same_fields x.columns y.columns (sym x.in_columns ∙ y.in_columns) in
    let kinds : x.kind ≡ y.kind = same_kind x.kind y.kind (sym x.is_kind ∙ ap (λ (c : CardFields). c.kind) same ∙ y.is_kind) in
    let named : IsNamed program.names (found.Reaction b.reaction) x.columns.reaction = rw same y.reaction in
    let r : a.reaction ≡ b.reaction = one_reaction program x.columns.reaction a.reaction b.reaction sound x.reaction named in
    let other : IsCardOfKind program x.kind x.columns a.reaction b.entry = rw (kinds, same, r) y.entry in
    let e : a.entry ≡ b.entry = one_of_kind program x.kind x.columns a.reaction a.entry b.entry sound x.entry other in
    λ i. record { reaction = r i; entry = e i }

-- a card told of its record, with the kind and the fields that a fault has
record Told (program : Parts) (k : CardKind) (c : CardFields) (card : Card) : Type 0 where
  reaction : IsNamed program.names (found.Reaction card.reaction) c.reaction
  entry : IsCardOfKind program k c card.reaction card.entry

told_as : (program : Parts) (fields : List (List ℕ)) (card : Card) (k : CardKind) (c : CardFields) → IsOf k c fields → IsCard program fields card → Told program k c card
told_as program fields card k c o h =
    let same : c ≡ h.columns = same_fields c h.columns (sym o.0 ∙ h.in_columns) in
    let kinds : k ≡ h.kind = same_kind k h.kind (sym o.1 ∙ ap (λ (d : CardFields). d.kind) same ∙ h.is_kind) in
    rw (kinds, same) (record { reaction = h.reaction; entry = h.entry })

module _ (program : Parts) (c : CardFields) (card : Card) where
  numbers_there : (k : CardKind) → Told program k c card → has_numbers_in_limits k c ≡ true
  numbers_there kind.Bodies h = rw h.entry.1 refl
  numbers_there kind.Write h = refl
  numbers_there kind.Schedule h = rw h.entry.5 refl
  numbers_there kind.Stop h = refl
  numbers_there kind.State h = refl

  names_there : (k : CardKind) → Told program k c card → IsUnknown program k c → ⊥
  names_there k h (inl none) = none card.reaction h.reaction
  names_there kind.Bodies h (inr none) = cc (none.0)
  names_there kind.Write h (inr none) = none.1 h.entry.0 h.entry.2
  names_there kind.Schedule h (inr none) = none.1 h.entry.0 h.entry.3
  names_there kind.Stop h (inr none) = cc (none.0)
  names_there kind.State h (inr none) = cc (none.0)

  nothing_filled : (k : CardKind) → Told program k c card → is_wrongly_filled k c ≡ false
  nothing_filled kind.Bodies h = rw (h.entry.2, h.entry.3) refl
  nothing_filled kind.Write h = rw h.entry.4 refl
  nothing_filled kind.Schedule h = refl
  nothing_filled kind.Stop h = rw (h.entry.0, h.entry.1, h.entry.2) refl
  nothing_filled kind.State h = rw (h.entry.2, h.entry.3) refl

  spelled_there : (k : CardKind) → Told program k c card → IsUnspelled program k card.reaction c.value → ⊥
  spelled_there kind.Bodies h none = none
  spelled_there kind.Write h none = none h.entry.1 h.entry.3
  spelled_there kind.Schedule h none = none h.entry.1 h.entry.4
  spelled_there kind.Stop h none = none
  spelled_there kind.State h none = none h.entry.0 h.entry.1

module _ (program : Parts) (fields : List (List ℕ)) (card : Card) (r : IsCard program fields card) where
  pub count_there : length fields ≢ 5 → ⊥
  count_there h = h (ap length r.in_columns)

  pub kind_there : (c : CardFields) → fields ≡ card_columns c → ((k : CardKind) → c.kind ≢ word k) → ⊥
  kind_there c f none = none r.kind (ap (λ (d : CardFields). d.kind) (same_fields c r.columns (sym f ∙ r.in_columns)) ∙ r.is_kind)

  pub number_there : (c : CardFields) (k : CardKind) → IsOf k c fields → has_numbers_in_limits k c ≡ false → ⊥
  number_there c k o h = let a = numbers_there program c card k (told_as program fields card k c o r) in let q : true ≡ false = sym a ∙ h in cc q

  pub name_there : (c : CardFields) (k : CardKind) → IsOf k c fields → IsUnknown program k c → ⊥
  name_there c k o h = names_there program c card k (told_as program fields card k c o r) h

  pub empty_there : (c : CardFields) (k : CardKind) → IsOf k c fields → is_wrongly_filled k c ≡ true → ⊥
  empty_there c k o h = let a = nothing_filled program c card k (told_as program fields card k c o r) in let q : false ≡ true = sym a ∙ h in cc q

  pub value_there : (c : CardFields) (k : CardKind) → IsSound program → IsOf k c fields → HasBadValue program k c → ⊥
  value_there c k sound o h =
      let t = told_as program fields card k c o r in
      let e : h.0 ≡ card.reaction = one_reaction program c.reaction h.0 card.reaction sound h.1 t.reaction in
      spelled_there program c card k t (rw (← e) h.2)
