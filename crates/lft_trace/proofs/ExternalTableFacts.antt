-- Records have one table of external inputs, or a fault, and what a record tells fits its program.
use Rattle.std.proofs.Common.{◌≡◌, ◌≢◌, ◌∙◌, inl, inr, ◌<◌, ◌++◌, ℕ, List, [], ◌∷◌, length, filter_map, Some, slice_get, refl, sym, ap, subst, arith}
use Rattle.std.{specs.List.Sorted.IsPermutation, proofs.lemmas.{List.Elements.filter_map-append, Option.slice_get_within}}
use Rattle.lft_ir.specs.{Parts.Parts, Sound.IsSound, Steps.{Fits.EventFits, Inputs.ExternalInputs}, declared.steps.externals.Event.Event}
use Rattle.lft_tag.specs.{declared.Tag.Tag, Tags.IsRecorded}
use Rattle.lft_trace.specs.ExternalTables.{ExternalFails, ExternalFields, ExternalTable, FaultAt, Has, IsEntry, IsOfKind, IsTag, event_of, external_tables, stop_of}
use Rattle.lft_trace.specs.declared.{external_table.Entry.{Entry, TheVariants.{Happens, Stops}}, fault.TraceFault.TraceFault, kind.EntryKind.EntryKind}
use Rattle.lft_trace.proofs.{Ascending.same_events, EntriesDiffer.{count_there, empty_there, kind_there, name_there, number_there, one_entry}}
use Rattle.lft_trace.proofs.{Members.{at_front, at_middle, has_permuted, has_permuted_back}, TraceFacts.within}
use Rattle.lft_tables.proofs.TableFacts.{Texts, holds_no_fault, one_reading}
use Rattle.lft_trace.specs.declared.fault.TraceFault.TheVariants as fault
use Rattle.lft_trace.specs.declared.kind.EntryKind.TheVariants as kind

same_inputs : (a b : ExternalInputs) → a.stop ≡ b.stop → a.events ≡ b.events → a ≡ b
same_inputs a b s e = λ i. record { stop = s i; events = e i }

pub one_table : (program : Parts) (records : Texts) (inputs other : ExternalInputs) → IsSound program → ExternalTable program records inputs → ExternalTable program records other → other ≡ inputs
one_table program records inputs other sound t u =
    let e : t.entries ≡ u.entries = one_reading (external_tables program) records (λ f a b. one_entry program f a b sound.well_named.distinct) t.entries u.entries t.holds u.holds in
    let one : filter_map stop_of u.entries ≡ inputs.stop ∷ [] = rw e at t.one_stop in
    let all : IsPermutation (filter_map event_of u.entries) inputs.events = rw e at t.same in
    let stops : ◌≡◌ {A = List Tag} (other.stop ∷ []) (inputs.stop ∷ []) = sym u.one_stop ∙ one in
    let there = λ (x : Event) (h : Has other.events x). has_permuted (filter_map event_of u.entries) inputs.events x all (has_permuted_back (filter_map event_of u.entries) other.events x u.same h) in
    let back = λ (x : Event) (h : Has inputs.events x). has_permuted (filter_map event_of u.entries) other.events x u.same (has_permuted_back (filter_map event_of u.entries) inputs.events x all h) in
    same_inputs other inputs (cc (stops)) (same_events other.events inputs.events u.order t.order there back)

no_clash : (program : Parts) (records : Texts) (inputs : ExternalInputs) (t : ExternalTable program records inputs) (front back : List Entry) (e d : Event) → t.entries ≡ front ++ (Happens e ∷ back) → Has (filter_map event_of front) d → (d.tag ≡ e.tag) × (d.action ≡ e.action) → ⊥
no_clash program records inputs t front back e d whole h clash =
    let split : filter_map event_of t.entries ≡ filter_map event_of front ++ (e ∷ filter_map event_of back) = ap (filter_map event_of) whole ∙ filter_map-append event_of front (Happens e ∷ back) in
    let at_d : slice_get (filter_map event_of t.entries) h.0 ≡ Some d = rw split (at_front (filter_map event_of front) (e ∷ filter_map event_of back) d h.0 h.1) in
    let at_e : slice_get (filter_map event_of t.entries) (length (filter_map event_of front)) ≡ Some e = rw split (at_middle (filter_map event_of front) (filter_map event_of back) e) in
    let same_place : h.0 ≡ length (filter_map event_of front) = t.apart h.0 (length (filter_map event_of front)) d e at_d at_e clash in
    let w : h.0 < length (filter_map event_of front) = slice_get_within (filter_map event_of front) h.0 d h.1 in
    omega arith

two : (A B : List Tag) (g s : Tag) → A ≢ [] → A ++ (g ∷ B) ≡ s ∷ [] → ⊥
two [] B g s some h = some refl
two (a ∷ []) B g s some h = cc (h)
two (a ∷ (b ∷ A)) B g s some h = cc (h)

no_second : (program : Parts) (records : Texts) (inputs : ExternalInputs) (t : ExternalTable program records inputs) (front back : List Entry) (g : Tag) → t.entries ≡ front ++ (Stops g ∷ back) → filter_map stop_of front ≢ [] → ⊥
no_second program records inputs t front back g whole some =
    let split : filter_map stop_of t.entries ≡ filter_map stop_of front ++ (g ∷ filter_map stop_of back) = ap (filter_map stop_of) whole ∙ filter_map-append stop_of front (Stops g ∷ back) in
    two (filter_map stop_of front) (filter_map stop_of back) g inputs.stop some (sym split ∙ t.one_stop)

faulty : (program : Parts) (records : Texts) (inputs : ExternalInputs) (line : ℕ) (bad : List (List ℕ)) (e : TraceFault) (front back : List Entry) (here : Entry) → IsSound program
    → (t : ExternalTable program records inputs) → t.entries ≡ front ++ (here ∷ back) → IsEntry program bad here → FaultAt program front line bad e → ⊥
faulty program records inputs line bad (fault.BadFieldCount n) front back here sound t whole is f = count_there program bad here is f.1
faulty program records inputs line bad (fault.BadEvent n) front back here sound t whole is f = kind_there program bad here is f.1 f.2 f.3
faulty program records inputs line bad (fault.BadNumber n) front back here sound t whole is f = number_there program bad here is f.1 f.2 f.3 f.4
faulty program records inputs line bad (fault.UnknownName n) front back here sound t whole is f = name_there program bad here is f.1 f.2 f.3 f.5
faulty program records inputs line bad (fault.FieldInPlace n) front back here sound t whole is f = empty_there program bad here is f.1 f.2 f.3 f.6
faulty program records inputs line bad (fault.DuplicateExternal n) front back here sound t whole is f =
    let e : here ≡ Happens f.1 = one_entry program bad here (Happens f.1) sound.well_named.distinct is f.2 in
    no_clash program records inputs t front back f.1 f.3 (whole ∙ ap (λ (y : Entry). front ++ (y ∷ back)) e) f.4 f.5
faulty program records inputs line bad (fault.TwoStops n) front back here sound t whole is f =
    let e : here ≡ Stops f.1 = one_entry program bad here (Stops f.1) sound.well_named.distinct is f.2 in
    no_second program records inputs t front back f.1 (whole ∙ ap (λ (y : Entry). front ++ (y ∷ back)) e) f.3
faulty program records inputs line bad fault.BadHeader front back here sound t whole is f = absurd f
faulty program records inputs line bad fault.NoStop front back here sound t whole is f = absurd f
faulty program records inputs line bad fault.TooManyRows front back here sound t whole is f = absurd f
faulty program records inputs line bad fault.NotCsv front back here sound t whole is f = absurd f
faulty program records inputs line bad fault.NoMemory front back here sound t whole is f = absurd f

pub no_table : (program : Parts) (records : Texts) (e : TraceFault) (inputs : ExternalInputs) → IsSound program → ExternalFails program records e → ExternalTable program records inputs → ⊥
no_table program records e inputs sound (inl f) t =
    holds_no_fault (external_tables program) records (λ f a b. one_entry program f a b sound.well_named.distinct) t.entries e
    (λ front back here line bad e whole is fault. faulty program records inputs line bad e front back here sound t whole is fault) t.holds f
no_table program records e inputs sound (inr f) t =
    let e : f.1.entries ≡ t.entries = one_reading (external_tables program) records (λ f a b. one_entry program f a b sound.well_named.distinct) f.1.entries t.entries f.1.holds t.holds in
    let n : filter_map stop_of t.entries ≡ [] = rw e at f.1.none in
    let q : ◌≡◌ {A = List Tag} [] (inputs.stop ∷ []) = sym n ∙ t.one_stop in
    cc (q)

-- ---- fits

recorded : (c : ExternalFields) (g : Tag) → IsTag c g → IsRecorded g
recorded c g h = (within 1000000000000000000 c.time g.time h.0, within 1000000000 c.microstep g.micro h.1)

pub event_fits : (program : Parts) (k : EntryKind) (c : ExternalFields) (e : Event) → IsOfKind program k c (Happens e) → EventFits program e
event_fits program kind.Event c e h =
    let s : h.0 ≡ e = cc (h.4) in
    subst (λ (x : Event). EventFits program x) s (record { recorded = recorded c h.0.tag h.1; action = slice_get_within program.actions h.0.action h.2.1.0 h.2.1.1 })
event_fits program kind.Stop c e h = let q = h.4 in cc (q)

pub stop_fits : (program : Parts) (k : EntryKind) (c : ExternalFields) (g : Tag) → IsOfKind program k c (Stops g) → IsRecorded g
stop_fits program kind.Event c g h = let q = h.4 in absurd (cc (q))
stop_fits program kind.Stop c g h = let s : h.0 ≡ g = cc (h.4) in subst IsRecorded s (recorded c h.0 h.1)
