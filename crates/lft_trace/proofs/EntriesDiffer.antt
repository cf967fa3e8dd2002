-- A record of external inputs has one entry, or a fault of its own, and not both.
use Rattle.std.proofs.Common.{◌≡◌, ◌≢◌, ◌∙◌, ℕ, List, [], length, get_or, true, false, Some, refl, sym, ap}
use Rattle.std.specs.Prelude.{codes, if◌then◌else◌}
use Rattle.std.specs.Str.{bytes_eq}
use Rattle.lft_ir.specs.{Names.AreDistinct, Parts.Parts, declared.steps.externals.Event.Event}
use Rattle.lft_tag.specs.declared.Tag.{Tag}
use Rattle.lft_trace.specs.ExternalTables.{ExternalFields, IsEntry, IsOf, IsOfKind, IsPhysical, IsTag, IsUnknown, has_numbers, in_order, is_filled, word}
use Rattle.lft_trace.specs.declared.{external_table.Entry.{Entry, TheVariants.{Happens, Stops}}, kind.EntryKind.EntryKind}
use Rattle.lft_ir.specs.declared.found.Found.TheVariants as found
use Rattle.lft_trace.specs.declared.kind.EntryKind.TheVariants as kind

-- the fields by their places
abbrev of_list : List (List ℕ) → ExternalFields
of_list xs = record { kind = get_or xs 0 []; time = get_or xs 1 []; microstep = get_or xs 2 []; name = get_or xs 3 []; value = get_or xs 4 [] }

pub same_fields : (c d : ExternalFields) → in_order c ≡ in_order d → c ≡ d
same_fields c d h = ap of_list h

abbrev kind_of : List ℕ → EntryKind
kind_of w = if bytes_eq w (codes "event") then kind.Event else kind.Stop

kind_of_word : (k : EntryKind) → kind_of (word k) ≡ k
kind_of_word kind.Event = refl
kind_of_word kind.Stop = refl

same_kind : (j k : EntryKind) → word j ≡ word k → j ≡ k
same_kind j k h = sym (kind_of_word j) ∙ ap kind_of h ∙ kind_of_word k

same_tag : (c : ExternalFields) (g h : Tag) → IsTag c g → IsTag c h → g ≡ h
same_tag c g h a b =
    let t : g.time ≡ h.time = cc (a.0, b.0) in
    let m : g.micro ≡ h.micro = cc (a.1, b.1) in
    λ i. record { time = t i; micro = m i }

same_action : (program : Parts) (text : List ℕ) (a b : ℕ) → AreDistinct program.names → IsPhysical program text a → IsPhysical program text b → a ≡ b
same_action program text a b distinct x y = let e = distinct (found.Action a) (found.Action b) text x.0 y.0 in cc (e)

same_event : (program : Parts) (c : ExternalFields) (x y : Event) → AreDistinct program.names → IsTag c x.tag → IsTag c y.tag → IsPhysical program c.name x.action → IsPhysical program c.name y.action → Some x.value ≡ Some y.value → x ≡ y
same_event program c x y distinct g h a b v =
    let t = same_tag c x.tag y.tag g h in
    let n = same_action program c.name x.action y.action distinct a b in
    let w : x.value ≡ y.value = cc (v) in
    λ i. record { tag = t i; action = n i; value = w i }

one_of_kind : (program : Parts) (k : EntryKind) (c : ExternalFields) (a b : Entry) → AreDistinct program.names → IsOfKind program k c a → IsOfKind program k c b → a ≡ b
one_of_kind program kind.Event c a b distinct x y = x.4 ∙ ap Happens (same_event program c x.0 y.0 distinct x.1 y.1 x.2 y.2 (sym x.3 ∙ y.3)) ∙ sym y.4
one_of_kind program kind.Stop c a b distinct x y = x.4 ∙ ap Stops (same_tag c x.0 y.0 x.1 y.1) ∙ sym y.4

moved : (program : Parts) (j k : EntryKind) (c d : ExternalFields) (entry : Entry) → c ≡ d → j ≡ k → IsOfKind program k d entry → IsOfKind program j c entry
moved program j k c d entry e f h = rw (e, f) h

pub one_entry : (program : Parts) (fields : List (List ℕ)) (a b : Entry) → AreDistinct program.names → IsEntry program fields a → IsEntry program fields b → a ≡ b
one_entry program fields a b distinct x y =
    let same : x.0 ≡ y.0 = same_fields x.0 y.0 (sym x.2 ∙ y.2) in
    let kinds : x.1 ≡ y.1 = same_kind x.1 y.1 (sym x.3 ∙ ap (λ (c : ExternalFields). c.kind) same ∙ y.3) in
    one_of_kind program x.1 x.0 a b distinct x.4 (moved program x.1 y.1 x.0 y.0 b same kinds y.4)

module _ (program : Parts) (c : ExternalFields) (entry : Entry) where
  numbers_there : (k : EntryKind) → IsOfKind program k c entry → has_numbers k c ≡ true
  numbers_there kind.Event h = rw (h.1.0, h.1.1, h.3) refl
  numbers_there kind.Stop h = rw (h.1.0, h.1.1) refl

  names_there : (k : EntryKind) → IsOfKind program k c entry → IsUnknown program k c → ⊥
  names_there kind.Event h none = none h.0.action h.2
  names_there kind.Stop h none = none

  nothing_filled : (k : EntryKind) → IsOfKind program k c entry → is_filled k c ≡ false
  nothing_filled kind.Event h = refl
  nothing_filled kind.Stop h = rw (h.2, h.3) refl

as_entry : (program : Parts) (fields : List (List ℕ)) (entry : Entry) (k : EntryKind) (c : ExternalFields) → IsOf k c fields → IsEntry program fields entry → IsOfKind program k c entry
as_entry program fields entry k c o h =
    let same : c ≡ h.0 = same_fields c h.0 (sym o.0 ∙ h.2) in
    let kinds : k ≡ h.1 = same_kind k h.1 (sym o.1 ∙ ap (λ (d : ExternalFields). d.kind) same ∙ h.3) in
    moved program k h.1 c h.0 entry same kinds h.4

module _ (program : Parts) (fields : List (List ℕ)) (entry : Entry) (r : IsEntry program fields entry) where
  pub count_there : length fields ≢ 5 → ⊥
  count_there h = h (ap length r.2)

  pub kind_there : (c : ExternalFields) → fields ≡ in_order c → ((k : EntryKind) → c.kind ≢ word k) → ⊥
  kind_there c f none = none r.1 (ap (λ (d : ExternalFields). d.kind) (same_fields c r.0 (sym f ∙ r.2)) ∙ r.3)

  pub number_there : (c : ExternalFields) (k : EntryKind) → IsOf k c fields → has_numbers k c ≡ false → ⊥
  number_there c k o h = let a = numbers_there program c entry k (as_entry program fields entry k c o r) in let q : true ≡ false = sym a ∙ h in cc (q)

  pub name_there : (c : ExternalFields) (k : EntryKind) → IsOf k c fields → IsUnknown program k c → ⊥
  name_there c k o h = names_there program c entry k (as_entry program fields entry k c o r) h

  pub empty_there : (c : ExternalFields) (k : EntryKind) → IsOf k c fields → is_filled k c ≡ true → ⊥
  empty_there c k o h = let a = nothing_filled program c entry k (as_entry program fields entry k c o r) in let q : false ≡ true = sym a ∙ h in cc (q)
