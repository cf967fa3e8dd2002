-- What one more record does to a table of external inputs.
use Rattle.std.proofs.Common.{◌≡◌, ◌∙◌, inl, inr, ◌+◌, ◌<◌, ◌≤◌, ◌++◌, ℕ, List, [], ◌∷◌, length, IfSome, Option, Some, None, filter_map, slice_get, refl, sym, ap, subst, arith, append_assoc, append-nil, take, get_or, add-one}
use Rattle.std.specs.Prelude.{option_to_list}
use Rattle.std.specs.List.Sorted.{IsPermutation}
use Rattle.std.proofs.{lemmas.List.{Elements.filter_map-append, Sorted.{IsPermutation-push_more, IsPermutation-refl, length_permutation}}, Math.Seq.take-suc}
use Rattle.lft_ir.specs.{Parts.Parts, Steps.{Fits.{EventFits, ExternalsFit}, Inputs.{ExternalInputs, InOrder}}, declared.steps.externals.Event.Event}
use Rattle.lft_tag.specs.{declared.Tag.Tag, Tags.IsRecorded}
use Rattle.lft_trace.specs.ExternalTables.{AreApart, ExternalFails, ExternalTable, FaultAt, Has, IsEntry, event_of, external_tables, header, stop_of}
use Rattle.lft_trace.specs.inner.SeenExternals.{AreKept, Keeps, Refuses}
use Rattle.lft_trace.specs.declared.{external_table.Entry.{Entry, TheVariants.{Happens, Stops}}, fault.TraceFault.TraceFault}
use Rattle.lft_trace.proofs.{EventFacts.{has_cons, has_none}, ExternalTableFacts.{event_fits, stop_fits}}
use Rattle.lft_trace.proofs.Members.{apart_pushed, has_permuted, has_permuted_back}
use Rattle.lft_tables.specs.{inner.Records.{fields_at_hand, IsCounted, IsNext, IsPast, IsUnread, records_left}, Records.records_of}
use Rattle.lft_tables.specs.declared.records.Records.{Records}
use Rattle.lft_tables.proofs.TableFacts.{Read, Texts, bad as bad_record, ended as all_read, one_more as read_more, past as past_last, start as first}
use Rattle.lft_trace.specs.declared.fault.TraceFault.TheVariants as fault

-- what is read up to a line: the header and the records of some entries, their stop, if any, and their events
pub record Gathered {R : Type 0} (remaining : R → Option (List ℕ)) (program : Parts) (records : Texts) (stop : Option Tag) (events : List Event) (r : Records R) : Type 0 where
  pub entries : List Entry
  pub read : Read remaining (external_tables program) records entries r
  pub kept : AreKept entries stop events

stops_after : (entries : List Entry) (entry : Entry) (stop now : Option Tag) (events events_now : List Event) → filter_map stop_of entries ≡ option_to_list stop → Keeps entry stop events now events_now → filter_map stop_of (entries ++ (entry ∷ [])) ≡ option_to_list now
stops_after entries (Happens x) stop now events events_now h k = filter_map-append stop_of entries (Happens x ∷ []) ∙ append-nil (filter_map stop_of entries) ∙ h ∙ ap option_to_list (sym k.0)
stops_after entries (Stops g) stop now events events_now h k =
    let none : filter_map stop_of entries ≡ [] = h ∙ ap option_to_list k.0 in
    filter_map-append stop_of entries (Stops g ∷ []) ∙ ap (λ (l : List Tag). l ++ (g ∷ [])) none ∙ ap option_to_list (sym k.1)

apart_after : (entries : List Entry) (entry : Entry) (stop now : Option Tag) (events events_now : List Event) → AreApart (filter_map event_of entries) → IsPermutation (filter_map event_of entries) events → Keeps entry stop events now events_now → AreApart (filter_map event_of (entries ++ (entry ∷ [])))
apart_after entries (Happens x) stop now events events_now h p k =
    subst (λ (l : List Event). AreApart l) (sym (filter_map-append event_of entries (Happens x ∷ [])))
    (apart_pushed (filter_map event_of entries) x h (λ d has. k.1 d (has_permuted (filter_map event_of entries) events d p has)))
apart_after entries (Stops g) stop now events events_now h p k =
    subst (λ (l : List Event). AreApart l) (sym (filter_map-append event_of entries (Stops g ∷ []) ∙ append-nil (filter_map event_of entries))) h

same_after : (entries : List Entry) (entry : Entry) (stop now : Option Tag) (events events_now : List Event) → IsPermutation (filter_map event_of entries) events → Keeps entry stop events now events_now → IsPermutation (filter_map event_of (entries ++ (entry ∷ []))) events_now
same_after entries (Happens x) stop now events events_now p k =
    subst (λ (l : List Event). IsPermutation l events_now) (sym (filter_map-append event_of entries (Happens x ∷ []))) (IsPermutation-push_more (filter_map event_of entries) events events_now x p k.2)
same_after entries (Stops g) stop now events events_now p k =
    subst (λ (l : List Event). IsPermutation l events_now) (sym (filter_map-append event_of entries (Stops g ∷ []) ∙ append-nil (filter_map event_of entries)))
    (subst (λ (l : List Event). IsPermutation (filter_map event_of entries) l) (sym k.2) p)

-- before the first entry nothing is kept
pub kept_none : AreKept [] None []
kept_none = record { stops = refl; apart = λ i j x y a b same. cc (a); same = IsPermutation-refl [] }

-- one entry more
pub kept_more : (entries : List Entry) (entry : Entry) (stop now : Option Tag) (events events_now : List Event) → AreKept entries stop events → Keeps entry stop events now events_now → AreKept (entries ++ (entry ∷ [])) now events_now
kept_more entries entry stop now events events_now r k = record {
  stops = stops_after entries entry stop now events events_now r.stops k;
  apart = apart_after entries entry stop now events events_now r.apart r.same k;
  same = same_after entries entry stop now events events_now r.same k;
}

-- the next of some entries
pub kept_next : (entries : List Entry) (n : ℕ) (d : Entry) (before : List Entry) (stop now : Option Tag) (events events_now : List Event) → n < length entries → AreKept (before ++ take n entries) stop events → Keeps (get_or entries n d) stop events now events_now → AreKept (before ++ take (n + 1) entries) now events_now
kept_next entries n d before stop now events events_now lt r k =
    let next : take (n + 1) entries ≡ take n entries ++ (get_or entries n d ∷ []) = ap (λ (k : ℕ). take k entries) (add-one n) ∙ take-suc entries n d lt in
    subst (λ (t : List Entry). AreKept t now events_now) (append_assoc before (take n entries) (get_or entries n d ∷ []) ∙ ap (λ (t : List Entry). before ++ t) (sym next)) (kept_more (before ++ take n entries) (get_or entries n d) stop now events events_now r k)

at_most_one : (stop : Option Tag) → length (option_to_list stop) ≤ 1
at_most_one None = omega arith
at_most_one (Some g) = omega arith

clash : (program : Parts) (line : ℕ) (f : List (List ℕ)) (entry : Entry) (entries : List Entry) (stop : Option Tag) (events : List Event) (e : TraceFault)
    → IsEntry program f entry → filter_map stop_of entries ≡ option_to_list stop → IsPermutation (filter_map event_of entries) events → Refuses entry stop events line e → FaultAt program entries line f e
clash program line f (Happens x) entries stop events e is s p h = rw h.0 (refl, x, is, h.1.0, has_permuted_back (filter_map event_of entries) events h.1.0 p h.1.1, h.1.2)
clash program line f (Stops g) entries None events e is s p h = absurd (h.1 refl)
clash program line f (Stops g) entries (Some o) events e is s p h = rw h.0 (refl, g, is, λ none. let q : ◌≡◌ {A = List Tag} [] (o ∷ []) = sym none ∙ s in cc (q))

pub start : {R : Type 0} {remaining : R → Option (List ℕ)} (program : Parts) (text : List ℕ) (old new : Records R) → IsUnread remaining old text 4000001 → IsNext remaining old new → fields_at_hand new ≡ header → Gathered remaining program (records_of text) None [] new
start program text old new u g top = record { entries = []; read = first (external_tables program) text old new u g top (omega arith, kept_none.apart); kept = kept_none }

module _ {R : Type 0} {remaining : R → Option (List ℕ)} (program : Parts) (records : Texts) (stop : Option Tag) (events : List Event) (old : Records R) (r : Gathered remaining program records stop events old) where
  pub one_more : (new : Records R) (entry : Entry) (now : Option Tag) (events_now : List Event) → IsNext remaining old new → IsEntry program (fields_at_hand new) entry → Keeps entry stop events now events_now → Gathered remaining program records now events_now new
  one_more new entry now events_now g is k =
      let kept = kept_more r.entries entry stop now events events_now r.kept k in
      record { entries = r.entries ++ (entry ∷ []); read = read_more (external_tables program) records r.entries old new entry r.read g is (rw kept.stops (at_most_one now), kept.apart); kept = kept }

  pub bad : (new : Records R) (e : TraceFault) → IsNext remaining old new → ((before : List Entry) → FaultAt program before new.line (fields_at_hand new) e) → ExternalFails program records e
  bad new e g is = inl (bad_record (external_tables program) records r.entries old new e r.read g (is r.entries))

  pub refused : (new : Records R) (entry : Entry) (e : TraceFault) → IsNext remaining old new → IsEntry program (fields_at_hand new) entry → Refuses entry stop events new.line e → ExternalFails program records e
  refused new entry e g is h = inl (bad_record (external_tables program) records r.entries old new e r.read g (clash program new.line (fields_at_hand new) entry r.entries stop events e is r.kept.stops r.kept.same h))

  pub past : (new : Records R) → IsPast remaining old new → ExternalFails program records fault.TooManyRows
  past new p = inl (past_last (external_tables program) records r.entries old new r.read p)

  pub ended : (inputs : ExternalInputs) → records_left remaining old ≡ [] → (stop ≡ Some inputs.stop) × (inputs.events ≡ events) × InOrder inputs.events → ExternalTable program records inputs
  ended inputs none h = record {
    entries = r.entries;
    holds = all_read (external_tables program) records r.entries old r.read none;
    one_stop = r.kept.stops ∙ ap option_to_list h.0;
    apart = r.kept.apart;
    same = subst (λ (l : List Event). IsPermutation (filter_map event_of r.entries) l) (sym h.1) r.kept.same;
    order = h.2;
  }

  pub no_stop : (e : TraceFault) → records_left remaining old ≡ [] → (e ≡ fault.NoStop) × (stop ≡ None) → ExternalFails program records e
  no_stop e none h = inr (h.0, record { entries = r.entries; holds = all_read (external_tables program) records r.entries old r.read none; apart = r.kept.apart; none = r.kept.stops ∙ ap option_to_list h.1 })

-- ---- fits

-- what is kept fits the program, and fewer events are kept than lines are read
pub record Fitting {R : Type 0} (program : Parts) (stop : Option Tag) (events : List Event) (r : Records R) : Type 0 where
  pub recorded : IfSome stop IsRecorded
  pub each : (e : Event) → Has events e → EventFits program e
  pub few : length events < r.line
  pub line : r.line ≤ 4000001
  pub last : r.last ≡ 4000001

-- nothing is kept yet
pub fit_first : {R : Type 0} (program : Parts) (old new : Records R) → old.last ≡ 4000001 → IsCounted old new → Fitting program None [] new
fit_first program old new last n = record {
  recorded = tt;
  each = λ e has. absurd (has_none e has);
  few = let line = n.line in omega (arith, line);
  line = let line = n.line in let within = n.within in omega (arith, line, within, last);
  last = n.last ∙ last;
}

module _ {R : Type 0} (program : Parts) (stop : Option Tag) (events : List Event) (old : Records R) (f : Fitting program stop events old) where
  pub fit_more : (new : Records R) (fields : List (List ℕ)) (entry : Entry) (now : Option Tag) (events_now : List Event) → IsCounted old new → IsEntry program fields entry → Keeps entry stop events now events_now → Fitting program now events_now new
  fit_more new fields (Happens x) now events_now n is k = record {
    recorded = subst (λ (s : Option Tag). IfSome s IsRecorded) (sym k.0) f.recorded;
    each = λ e has. elim (has_cons x e events (has_permuted_back (x ∷ events) events_now e k.2 has)) [
      | inl same ↦ subst (λ (y : Event). EventFits program y) same (event_fits program is.1 is.0 x is.4)
      | inr there ↦ f.each e there
    ];
    few = let l = length_permutation (x ∷ events) events_now k.2 in let few = f.few in let line = n.line in omega (arith, l, few, line);
    line = let line = n.line in let within = n.within in let last = f.last in omega (arith, line, within, last);
    last = n.last ∙ f.last;
  }
  fit_more new fields (Stops g) now events_now n is k = record {
    recorded = subst (λ (s : Option Tag). IfSome s IsRecorded) (sym k.1) (stop_fits program is.1 is.0 g is.4);
    each = subst (λ (l : List Event). (e : Event) → Has l e → EventFits program e) (sym k.2) f.each;
    few = let l = ap (λ (t : List Event). length t) k.2 in let few = f.few in let line = n.line in omega (arith, l, few, line);
    line = let line = n.line in let within = n.within in let last = f.last in omega (arith, line, within, last);
    last = n.last ∙ f.last;
  }

  pub fit_all : (inputs : ExternalInputs) → (stop ≡ Some inputs.stop) × (inputs.events ≡ events) × InOrder inputs.events → ExternalsFit program inputs
  fit_all inputs h = record {
    stop = subst (λ (s : Option Tag). IfSome s IsRecorded) h.0 f.recorded;
    few = let l = ap (λ (t : List Event). length t) h.1 in let few = f.few in let line = f.line in omega (arith, l, few, line);
    each = λ i e at. f.each e (i, subst (λ (l : List Event). slice_get l i ≡ Some e) h.1 at);
  }
