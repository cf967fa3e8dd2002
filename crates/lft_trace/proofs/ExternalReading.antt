-- External inputs of a table whose lines are read some at a time.
use Rattle.std.proofs.Common.{◌≡◌, ◌∙◌, inl, inr, ◌≤◌, ◌++◌, ℕ, List, [], ◌∷◌, length, IfSome, Option, Some, None, filter_map, refl, sym, ap, subst, arith, append_assoc, append-nil}
use Rattle.std.specs.Prelude.{option_to_list}
use Rattle.std.{specs.List.{AllZip, Sorted.IsPermutation}, proofs.lemmas.{List.Sorted.length_permutation, Option.IfSome_then}}
use Rattle.lft_ir.specs.{Parts.Parts, Steps.{Fits.{EventFits, ExternalsFit}, Inputs.{ExternalInputs, InOrder}}, declared.steps.externals.Event.Event}
use Rattle.lft_tag.specs.{declared.Tag.Tag, Tags.IsRecorded}
use Rattle.lft_tables.specs.{Records.records_of, inner.{Parts.HoldsItems, TableLines.{AreNextLines, text_left}}, declared.table_lines.TableLines.TableLines}
use Rattle.lft_tables.proofs.{Beginning.records_of_lines, TableFacts.Texts, Together.{at_some, no_record, zipped}}
use Rattle.lft_trace.specs.{ExternalTables.{ExternalTable, Has, IsEntry, event_of, header, stop_of}, inner.ExternalLines.{AreKeptIn, AreReadOf}}
use Rattle.lft_trace.specs.declared.{external_table.Entry.{Entry, TheVariants.{Happens, Stops}}, reading.externals.KeptEntries.KeptEntries}
use Rattle.lft_trace.proofs.{EventFacts.{has_cons, has_none}, ExternalTableFacts.{event_fits, stop_fits}, Members.has_permuted_back}

-- up to what is left, the text's records tell entries that are kept
pub record ReadUpTo (program : Parts) (known left : Option (List ℕ)) (k : KeptEntries) : Type 0 where
  pub entries : List Entry
  pub records : Texts
  pub each : AllZip (IsEntry program) records entries
  pub kept : AreKeptIn entries k
  pub all : IfSome known (λ text. (rest : List ℕ) × (left ≡ Some rest) × (records_of text ≡ records ++ records_of rest))

-- before anything is read, all is left
pub all_left : (known : Option (List ℕ)) → IfSome known (λ text. (rest : List ℕ) × (known ≡ Some rest) × (records_of text ≡ [] ++ records_of rest))
all_left None = tt
all_left (Some text) = (text, refl, refl)

module _ {R : Type 0} (remaining : R → Option (List ℕ)) (program : Parts) (known left : Option (List ℕ)) (k : KeptEntries) (r : ReadUpTo program known left k) (new : TableLines R) (lines : List ℕ) (is_next : IfSome left (AreNextLines remaining new lines)) where
  -- the entries of the next lines are kept too
  pub read_more : (items : List Entry) (on : KeptEntries) → HoldsItems (IsEntry program) lines items → ((before : List Entry) → AreKeptIn before k → AreKeptIn (before ++ items) on) → ReadUpTo program known (text_left remaining new) on
  read_more items on held keeps = record {
    entries = r.entries ++ items;
    records = r.records ++ records_of lines;
    each = zipped (IsEntry program) r.records (records_of lines) r.entries items r.each held.1;
    kept = keeps r.entries r.kept;
    all = IfSome_then known r.all (λ text u.
        let next = at_some (AreNextLines remaining new lines) left u.0 u.1 is_next in
        (next.behind, next.left, u.2 ∙ ap (λ (t : Texts). r.records ++ t) (records_of_lines u.0 lines next.behind next.cut held.0) ∙ sym (append_assoc r.records (records_of lines) (records_of next.behind))));
  }

  -- where there are no lines more, all is read
  pub read_all : (inputs : ExternalInputs) → length lines ≡ 0 → (k.stop ≡ Some inputs.stop) × (inputs.events ≡ k.events) × InOrder inputs.events → AreReadOf program known inputs
  read_all inputs empty made = record {
    entries = r.entries;
    records = r.records;
    each = r.each;
    kept = record {
      stops = r.kept.0.stops ∙ ap option_to_list made.0;
      apart = r.kept.0.apart;
      same = subst (λ (l : List Event). IsPermutation (filter_map event_of r.entries) l) (sym made.1) r.kept.0.same;
    };
    order = made.2;
    few = let count = r.kept.1 in omega (arith, count);
    all = IfSome_then known r.all (λ text u.
        let next = at_some (AreNextLines remaining new lines) left u.0 u.1 is_next in
        u.2 ∙ ap (λ (t : List ℕ). r.records ++ records_of t) (next.none empty) ∙ ap (λ (t : Texts). r.records ++ t) no_record ∙ append-nil r.records);
  }

-- an event that a record tells fits the program
event_there : (program : Parts) (records : Texts) (entries : List Entry) (e : Event) → AllZip (IsEntry program) records entries → Has (filter_map event_of entries) e → EventFits program e
event_there program [] [] e each has = absurd (has_none e has)
event_there program [] (x ∷ xs) e each has = absurd each
event_there program (f ∷ fs) [] e each has = absurd each
event_there program (f ∷ fs) (Happens x ∷ xs) e each has = elim (has_cons x e (filter_map event_of xs) has) [
  | inl same ↦ let is = each.0 in subst (λ (y : Event). EventFits program y) same (event_fits program is.1 is.0 x is.4)
  | inr there ↦ event_there program fs xs e each.1 there
]
event_there program (f ∷ fs) (Stops g ∷ xs) e each has = event_there program fs xs e each.1 has

-- so is a stop recorded
stop_there : (program : Parts) (records : Texts) (entries : List Entry) (g : Tag) → AllZip (IsEntry program) records entries → filter_map stop_of entries ≡ g ∷ [] → IsRecorded g
stop_there program [] [] g each one = absurd (cc (one))
stop_there program [] (x ∷ xs) g each one = absurd each
stop_there program (f ∷ fs) [] g each one = absurd each
stop_there program (f ∷ fs) (Happens x ∷ xs) g each one = stop_there program fs xs g each.1 one
stop_there program (f ∷ fs) (Stops s ∷ xs) g each one =
    let q : ◌≡◌ {A = List Tag} (s ∷ filter_map stop_of xs) (g ∷ []) = one in
    let same : s ≡ g = cc (q) in
    let is = each.0 in
    subst (λ (t : Tag). IsRecorded t) same (stop_fits program is.1 is.0 s is.4)

-- there are no more events than entries
no_more_events : (entries : List Entry) → length (filter_map event_of entries) ≤ length entries
no_more_events [] = omega arith
no_more_events (Happens x ∷ xs) = let less = no_more_events xs in omega (arith, less)
no_more_events (Stops g ∷ xs) = let less = no_more_events xs in omega (arith, less)

module _ (program : Parts) (known : Option (List ℕ)) (inputs : ExternalInputs) (r : AreReadOf program known inputs) where
  pub read_fit : ExternalsFit program inputs
  read_fit = record {
    stop = stop_there program r.records r.entries inputs.stop r.each r.kept.stops;
    few = let long = length_permutation (filter_map event_of r.entries) inputs.events r.kept.same in let less = no_more_events r.entries in let few = r.few in omega (arith, long, less, few);
    each = λ i e at. event_there program r.records r.entries e r.each (has_permuted_back (filter_map event_of r.entries) inputs.events e r.kept.same (i, at));
  }

  pub read_table : (text body : List ℕ) → known ≡ Some body → records_of text ≡ header ∷ records_of body → ExternalTable program (records_of text) inputs
  read_table text body is under = record {
    entries = r.entries;
    holds = record { rest = r.records; under = under ∙ ap (λ (t : Texts). header ∷ t) (at_some (λ (t : List ℕ). records_of t ≡ r.records) known body is r.all); each = r.each; few = r.few };
    one_stop = r.kept.stops;
    apart = r.kept.apart;
    same = r.kept.same;
    order = r.order;
  }
