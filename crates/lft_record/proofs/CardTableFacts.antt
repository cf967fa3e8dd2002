-- Records have one table of cards, or a fault.
use Rattle.std.proofs.Common.{◌≡◌, ◌≢◌, ◌∙◌, inl, inr, ◌++◌, ℕ, zero, suc, List, [], ◌∷◌, length, Option, Some, None, filter_map, get_or, slice_get, refl, sym, ap, arith}
use Rattle.std.specs.Prelude.{option_to_list}
use Rattle.std.proofs.lemmas.{List.Elements.filter_map-append, Option.{slice_get-get_or, slice_get_within}}
use Rattle.lft_ir.specs.{Parts.Parts, Sound.IsSound}
use Rattle.lft_tables.proofs.TableFacts.{Texts, holds_no_fault, one_reading}
use Rattle.lft_record.specs.CardTables.{AreTold, CardTable, CardsFail, FaultAt, IsCard, IsScript, card_tables, entries_of, entry_bodies, entry_of, entry_state}
use Rattle.lft_record.specs.{Scripts.blank, declared.cards.{card.{Card.Card, CardEntry.CardEntry}, Script.Script, fault.CardFault.CardFault}}
use Rattle.lft_record.proofs.{CardFacts.is_own, CardsDiffer.{count_there, empty_there, kind_there, name_there, number_there, one_card, value_there}}
use Rattle.lft_record.specs.declared.cards.fault.CardFault.TheVariants as fault

one_item : {X : Type 0} (a b : Option X) → option_to_list a ≡ option_to_list b → a ≡ b
one_item None None h = refl
one_item None (Some y) h = absurd (cc h)
one_item (Some x) None h = absurd (cc h)
one_item (Some x) (Some y) h = let e : x ≡ y = cc h in ap (λ z. Some z) e

one_script : (entries : List CardEntry) (a b : Script) → IsScript entries a → IsScript entries b → a ≡ b
one_script entries a b x y =
    let bodies = one_item a.bodies b.bodies (sym x.bodies ∙ y.bodies) in
    let steps = sym x.steps ∙ y.steps in
    let state = one_item a.state b.state (sym x.state ∙ y.state) in
    λ i. record { bodies = bodies i; steps = steps i; state = state i }

-- lists of one length with the same items
same_items : (xs ys : List Script) → length xs ≡ length ys → ((i : ℕ) (x y : Script) → slice_get xs i ≡ Some x → slice_get ys i ≡ Some y → x ≡ y) → xs ≡ ys
same_items [] [] h each = refl
same_items [] (y ∷ ys) h each = absurd (omega (arith, h))
same_items (x ∷ xs) [] h each = absurd (omega (arith, h))
same_items (x ∷ xs) (y ∷ ys) h each =
    let a = each zero x y refl refl in
    let b = same_items xs ys (omega (arith, h)) (λ i p q e f. each (suc i) p q e f) in
    λ i. a i ∷ b i

pub one_table : (program : Parts) (records : Texts) (scripts other : List Script) → IsSound program → CardTable program records scripts → CardTable program records other → other ≡ scripts
one_table program records scripts other sound t u =
    let e : t.cards ≡ u.cards = one_reading (card_tables program) records (λ f x y. one_card program f x y sound) t.cards u.cards t.holds u.holds in
    let told : AreTold program u.cards scripts = rw e at t.told in
    let lengths : length other ≡ length scripts = u.told.long ∙ sym told.long in
    same_items other scripts lengths (λ i x y a b. one_script (entries_of i u.cards) x y (u.told.each i x a) (told.each i y b))

-- two of a kind in a list can't be told together
two : {X : Type 0} (before more : List X) (x : X) (o : Option X) → before ≢ [] → before ++ (x ∷ more) ≡ option_to_list o → ⊥
two [] more x o some h = some refl
two (a ∷ []) more x None some h = cc h
two (a ∷ []) more x (Some y) some h = cc h
two (a ∷ (b ∷ before)) more x None some h = cc h
two (a ∷ (b ∷ before)) more x (Some y) some h = cc h

-- the entries of a card's reaction, where the card stands among others
entries_split : (front back : List Card) (card : Card) → entries_of card.reaction (front ++ (card ∷ back)) ≡ entries_of card.reaction front ++ (card.entry ∷ entries_of card.reaction back)
entries_split front back card = filter_map-append (entry_of card.reaction) front (card ∷ back) ∙ rw (is_own card.reaction card refl) refl

not_again : {X : Type 0} (of : CardEntry → Option X) (front back : List Card) (card : Card) (x : X) (o : Option X) → of card.entry ≡ Some x → filter_map of (entries_of card.reaction front) ≢ []
    → filter_map of (entries_of card.reaction (front ++ (card ∷ back))) ≡ option_to_list o → ⊥
not_again of front back card x o e some h =
    let split = ap (filter_map of) (entries_split front back card) ∙ filter_map-append of (entries_of card.reaction front) (card.entry ∷ entries_of card.reaction back) in
    let here : filter_map of (card.entry ∷ entries_of card.reaction back) ≡ x ∷ filter_map of (entries_of card.reaction back) = rw e refl in
    two (filter_map of (entries_of card.reaction front)) (filter_map of (entries_of card.reaction back)) x o some (sym (split ∙ ap (λ l. filter_map of (entries_of card.reaction front) ++ l) here) ∙ h)

script_of : (program : Parts) (scripts : List Script) (fields : List (List ℕ)) (card : Card) → IsSound program → IsCard program fields card → length scripts ≡ length program.reactions → (script : Script) × (slice_get scripts card.reaction ≡ Some script)
script_of program scripts fields card sound is l =
    let w = slice_get_within program.names.reactions card.reaction is.columns.reaction is.reaction in
    let n = sound.well_named.reactions in
    (get_or scripts card.reaction blank, slice_get-get_or scripts card.reaction blank (omega (arith, w, n, l)))

faulty : (program : Parts) (records : Texts) (scripts : List Script) (line : ℕ) (bad : List (List ℕ)) (e : CardFault) (front back : List Card) (here : Card) → IsSound program
    → (t : CardTable program records scripts) → t.cards ≡ front ++ (here ∷ back) → IsCard program bad here → FaultAt program front line bad e → ⊥
faulty program records scripts line bad (fault.BadFieldCount n) front back here sound t whole is f = count_there program bad here is f.1
faulty program records scripts line bad (fault.BadKind n) front back here sound t whole is f = kind_there program bad here is f.1 f.2 f.3
faulty program records scripts line bad (fault.BadNumber n) front back here sound t whole is f = number_there program bad here is f.1 f.2 f.3 f.4
faulty program records scripts line bad (fault.UnknownName n) front back here sound t whole is f = name_there program bad here is f.1 f.2 f.3 f.5
faulty program records scripts line bad (fault.FieldInPlace n) front back here sound t whole is f = empty_there program bad here is f.1 f.2 f.3 f.6
faulty program records scripts line bad (fault.BadValue n) front back here sound t whole is f = value_there program bad here is f.1 f.2 sound f.3 f.7
faulty program records scripts line bad (fault.GivenTwice n) front back here sound t whole is f =
    let e : here ≡ f.1 = one_card program bad here f.1 sound is f.2 in
    let all : t.cards ≡ front ++ (f.1 ∷ back) = whole ∙ ap (λ (y : Card). front ++ (y ∷ back)) e in
    let s = script_of program scripts bad f.1 sound f.2 t.told.long in
    let told : IsScript (entries_of f.1.reaction (front ++ (f.1 ∷ back))) s.0 = rw all at (t.told.each f.1.reaction s.0 s.1) in
    elim f.3 [
      | inl b ↦ not_again entry_bodies front back f.1 b.0 s.0.bodies b.1 b.2 told.bodies
      | inr w ↦ not_again entry_state front back f.1 w.0 s.0.state w.1 w.2 told.state
    ]
faulty program records scripts line bad fault.BadHeader front back here sound t whole is f = f
faulty program records scripts line bad fault.TooManyRows front back here sound t whole is f = f
faulty program records scripts line bad fault.NotCsv front back here sound t whole is f = f
faulty program records scripts line bad fault.NoMemory front back here sound t whole is f = f

pub no_table : (program : Parts) (records : Texts) (e : CardFault) (scripts : List Script) → IsSound program → CardsFail program records e → CardTable program records scripts → ⊥
no_table program records e scripts sound f t =
    holds_no_fault (card_tables program) records (λ f x y. one_card program f x y sound) t.cards e
    (λ front back here line bad e whole is fault. faulty program records scripts line bad e front back here sound t whole is fault) t.holds f
