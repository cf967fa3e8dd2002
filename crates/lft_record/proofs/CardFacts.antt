-- What one more record does to a table of cards.
use Rattle.std.proofs.Common.{Bor, ◌≡◌, ◌≢◌, ◌∙◌, inl, inr, ◌<◌, ◌==◌, ◌++◌, ℕ, List, [], ◌∷◌, length, Option, Some, None, Bool, true, false, filter_map, get_or, slice_get, refl, sym, ap, arith, append-nil}
use Rattle.std.specs.Prelude.{not, is_some, option_to_list}
use Rattle.std.specs.List.{All}
use Rattle.std.proofs.lemmas.{Bool.{cases_Bool, Decides.nat_tests}, List.Elements.filter_map-append}
use Rattle.std.proofs.lemmas.Option.{slice_get-get_or, slice_get_within, get_or_from_slice_get}
use Rattle.lft_ir.specs.Parts.{Parts}
use Rattle.lft_resolve.proofs.Placing.{not_some}
use Rattle.lft_record.specs.CardTables.{AreTold, CardsFail, FaultAt, IsAgain, IsCard, IsScript, card_tables, entries_of, entry_bodies, entry_of, entry_state, entry_step, cards_header}
use Rattle.lft_record.specs.{inner.Scripts.{Adds, is_taken, with_entry}, Scripts.blank}
use Rattle.lft_record.specs.declared.cards.{card.{Card.Card, CardStep.CardStep, CardEntry.CardEntry}, Script.Script, expression.Summand.Summand}
use Rattle.lft_record.specs.declared.cards.fault.CardFault.{CardFault}
use Rattle.lft_tables.specs.{inner.Records.{fields_at_hand, in_memory, IsNext, IsUnread}, Records.records_of, declared.records.Records.Records}
use Rattle.lft_tables.proofs.TableFacts.{Read, Texts, bad as bad_record, one_more as read_more, start as first}
use Rattle.lft_record.specs.declared.cards.card.CardEntry.TheVariants as entry
use Rattle.lft_record.specs.declared.cards.fault.CardFault.TheVariants as fault

-- what is read up to a line: the header and the records of some cards, and the scripts that they tell
pub record Gathered (program : Parts) (records : Texts) (scripts : List Script) (r : Records (Bor (List ℕ))) : Type 0 where
  pub cards : List Card
  pub read : Read in_memory (card_tables program) records cards r
  pub told : AreTold program cards scripts

blank_told : (r : ℕ) (script : Script) → script ≡ blank → IsScript [] script
blank_told r script e = rw e (record { bodies = refl; steps = refl; state = refl })

pub start : (program : Parts) (text : List ℕ) (scripts : List Script) (old new : Records (Bor (List ℕ))) → IsUnread in_memory old text 4000001 → IsNext in_memory old new → fields_at_hand new ≡ cards_header → length scripts ≡ length program.reactions → All (λ script. script ≡ blank) scripts → Gathered program (records_of text) scripts new
start program text scripts old new u g top l b =
    let told : AreTold program [] scripts = record {
      long = l;
      each = λ r script at. blank_told r script (sym (get_or_from_slice_get scripts r script blank at) ∙ b r blank (slice_get_within scripts r script at));
    } in
    record { cards = []; read = first (card_tables program) text old new u g top (scripts, told); told = told }

-- the entries of a reaction, with those of one card more
pub entries_more : (r : ℕ) (cards : List Card) (card : Card) (o : Option CardEntry) → entry_of r card ≡ o → entries_of r (cards ++ (card ∷ [])) ≡ entries_of r cards ++ option_to_list o
entries_more r cards card None e = filter_map-append (entry_of r) cards (card ∷ []) ∙ rw e refl
entries_more r cards card (Some x) e = filter_map-append (entry_of r) cards (card ∷ []) ∙ rw e refl

pub is_own : (r : ℕ) (card : Card) → r ≡ card.reaction → entry_of r card ≡ Some card.entry
is_own r card e = let t : (r == card.reaction) ≡ true = grind (arith, nat_tests, e) in rw t refl

is_other : (r : ℕ) (card : Card) → r ≢ card.reaction → entry_of r card ≡ None
is_other r card e = let t : (r == card.reaction) ≡ false = grind (arith, nat_tests, e) in rw t refl

with_more : (entries : List CardEntry) (script : Script) (e : CardEntry) → IsScript entries script → is_taken script e ≡ false → IsScript (entries ++ (e ∷ [])) (with_entry script e)
with_more entries script (entry.Bodies n) s free = record {
  bodies = filter_map-append entry_bodies entries (entry.Bodies n ∷ []) ∙ ap (λ (l : List ℕ). l ++ (n ∷ [])) (s.bodies ∙ ap option_to_list (not_some script.bodies free));
  steps = filter_map-append entry_step entries (entry.Bodies n ∷ []) ∙ append-nil (filter_map entry_step entries) ∙ s.steps;
  state = filter_map-append entry_state entries (entry.Bodies n ∷ []) ∙ append-nil (filter_map entry_state entries) ∙ s.state;
}
with_more entries script (entry.Step x) s free = record {
  bodies = filter_map-append entry_bodies entries (entry.Step x ∷ []) ∙ append-nil (filter_map entry_bodies entries) ∙ s.bodies;
  steps = filter_map-append entry_step entries (entry.Step x ∷ []) ∙ ap (λ (l : List CardStep). l ++ (x ∷ [])) s.steps;
  state = filter_map-append entry_state entries (entry.Step x ∷ []) ∙ append-nil (filter_map entry_state entries) ∙ s.state;
}
with_more entries script (entry.State t) s free = record {
  bodies = filter_map-append entry_bodies entries (entry.State t ∷ []) ∙ append-nil (filter_map entry_bodies entries) ∙ s.bodies;
  steps = filter_map-append entry_step entries (entry.State t ∷ []) ∙ append-nil (filter_map entry_step entries) ∙ s.steps;
  state = filter_map-append entry_state entries (entry.State t ∷ []) ∙ ap (λ (l : List (List Summand)). l ++ (t ∷ [])) (s.state ∙ ap option_to_list (not_some script.state free));
}

not_false : (b : Bool) → true ≡ not b → b ≡ false
not_false true h = absurd (cc h)
not_false false h = refl

not_true : (b : Bool) → false ≡ not b → b ≡ true
not_true true h = refl
not_true false h = absurd (cc h)

told_more : (program : Parts) (cards : List Card) (scripts now : List Script) (card : Card) → AreTold program cards scripts → card.reaction < length scripts → Adds scripts now card true → AreTold program (cards ++ (card ∷ [])) now
told_more program cards scripts now card t within a = record {
  long = a.long ∙ t.long;
  each = λ r script at. elim (cases_Bool (r == card.reaction)) [
    | inl e ↦
        let own : r ≡ card.reaction = grind (arith, nat_tests, e) in
        let old = get_or scripts card.reaction blank in
        let was : slice_get scripts card.reaction ≡ Some old = slice_get-get_or scripts card.reaction blank within in
        let new : Some script ≡ Some (with_entry old card.entry) = sym at ∙ ap (slice_get now) own ∙ a.added old was refl in
        let is : script ≡ with_entry old card.entry = cc new in
        let before : IsScript (entries_of r cards) old = t.each r old (ap (slice_get scripts) own ∙ was) in
        rw (entries_more r cards card (Some card.entry) (is_own r card own), is) (with_more (entries_of r cards) old card.entry before (not_false (is_taken old card.entry) (a.free old was)))
    | inr e ↦
        let other : r ≢ card.reaction = grind (arith, nat_tests, e) in
        let before : IsScript (entries_of r cards) script = t.each r script (sym (a.others r other) ∙ at) in
        rw (entries_more r cards card None (is_other r card other), append-nil (entries_of r cards)) before
  ];
}

taken_again : (cards : List Card) (card : Card) (script : Script) → IsScript (entries_of card.reaction cards) script → is_taken script card.entry ≡ true → IsAgain cards card
taken_again cards card script s taken = again card.entry refl taken
  where
    some : {X : Type 0} (o : Option X) (l : List X) → is_some o ≡ true → l ≡ option_to_list o → l ≢ []
    some None l h e = absurd (cc h)
    some {X} (Some x) l h e = λ none. let q : ◌≡◌ {A = List X} [] (x ∷ []) = sym none ∙ e in cc q

    again : (e : CardEntry) → card.entry ≡ e → is_taken script e ≡ true → IsAgain cards card
    again (entry.Bodies n) e t = inl (n, ap entry_bodies e, some script.bodies (filter_map entry_bodies (entries_of card.reaction cards)) t s.bodies)
    again (entry.Step x) e t = absurd (cc t)
    again (entry.State terms) e t = inr (terms, ap entry_state e, some script.state (filter_map entry_state (entries_of card.reaction cards)) t s.state)

module _ (program : Parts) (records : Texts) (scripts : List Script) (old new : Records (Bor (List ℕ))) (r : Gathered program records scripts old) where
  pub one_more : (now : List Script) (card : Card) → IsNext in_memory old new → IsCard program (fields_at_hand new) card → card.reaction < length program.reactions → Adds scripts now card true → Gathered program records now new
  one_more now card g is within a =
      let told = told_more program r.cards scripts now card r.told (let l = r.told.long in omega (arith, l, within)) a in
      record { cards = r.cards ++ (card ∷ []); read = read_more (card_tables program) records r.cards old new card r.read g is (now, told); told = told }

  pub bad : (e : CardFault) → IsNext in_memory old new → ((before : List Card) → FaultAt program before new.line (fields_at_hand new) e) → CardsFail program records e
  bad e g is = bad_record (card_tables program) records r.cards old new e r.read g (is r.cards)

  pub refused : (now : List Script) (card : Card) → IsNext in_memory old new → IsCard program (fields_at_hand new) card → card.reaction < length program.reactions → Adds scripts now card false → CardsFail program records (fault.GivenTwice new.line)
  refused now card g is within a =
      let inside : card.reaction < length scripts = let l = r.told.long in omega (arith, l, within) in
      let old_script = get_or scripts card.reaction blank in
      let was : slice_get scripts card.reaction ≡ Some old_script = slice_get-get_or scripts card.reaction blank inside in
      let again : IsAgain r.cards card = taken_again r.cards card old_script (r.told.each card.reaction old_script was) (not_true (is_taken old_script card.entry) (a.free old_script was)) in
      bad_record (card_tables program) records r.cards old new (fault.GivenTwice new.line) r.read g (refl, card, is, again)
