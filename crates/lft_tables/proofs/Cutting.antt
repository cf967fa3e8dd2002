-- Texts that are cut at the end of a line have the records of their parts, one part after another.
use Rattle.std.proofs.Common.{◌≡◌, ◌≢◌, ◌∙◌, ◌∷◌, ◌++◌, [], ℕ, List, Some, Bool, true, false, refl, sym, ap, subst, arith, zero, suc, inl, inr}
use Rattle.std.specs.Prelude.{◌==◌, ◌||◌, if◌then◌else◌, slice_get}
use Rattle.std.proofs.lemmas.Bool.{cases_Bool, false≢true}
use Rattle.csv.specs.{Machine.{after_end, step, in_field, start_field, start_record}, Reading.{default_config, records, strip_bom, is_bom}}
use Rattle.csv.specs.declared.parser.{State.State, Action.Action}
use Rattle.lft_tables.{specs.{Records.records_of, Parts.{HasNoQuote, EndsLine}, inner.Parts.BeginsPlain}, proofs.Joining.{LeadsToStart, records_joined}}
use Rattle.csv.specs.declared.parser.State.TheVariants as st
use Rattle.csv.specs.declared.parser.Action.TheVariants as act

-- the states that bytes without a quotation mark lead to
abbrev is_plain : State → Bool
is_plain st.StartRecord = true
is_plain st.AfterCr = true
is_plain st.StartField = true
is_plain st.InField = true
is_plain st.InComment = false
is_plain st.InQuoted = false
is_plain st.AfterQuote = false
is_plain st.InEscape = false

either : (b : Bool) (x y : State × Action) → is_plain x.0 ≡ true → is_plain y.0 ≡ true → is_plain (if b then x else y).0 ≡ true
either b x y hx hy = elim (cases_Bool b) [
  | inl e ↦ rw e hx
  | inr e ↦ rw e hy
]

ended : (c : ℕ) → is_plain (after_end default_config.terminator c) ≡ true
ended c = elim (cases_Bool (c == 13)) [
  | inl e ↦ rw e refl
  | inr e ↦ rw e refl
]

in_field_plain : (c : ℕ) → is_plain (in_field default_config c).0 ≡ true
in_field_plain c = either (c == 44) (st.StartField, act.EndField) (if (c == 13) || (c == 10) then (after_end default_config.terminator c, act.EndRecord) else (st.InField, act.Copy)) refl (either ((c == 13) || (c == 10)) (after_end default_config.terminator c, act.EndRecord) (st.InField, act.Copy) (ended c) refl)

start_field_plain : (c : ℕ) → c == 34 ≡ false → is_plain (start_field default_config c).0 ≡ true
start_field_plain c e = rw e (in_field_plain c)

start_record_plain : (c : ℕ) → c == 34 ≡ false → is_plain (start_record default_config c).0 ≡ true
start_record_plain c e = either ((c == 13) || (c == 10)) (st.StartRecord, act.Skip) (start_field default_config c) refl (start_field_plain c e)

step_plain : (s : State) (c : ℕ) → is_plain s ≡ true → c == 34 ≡ false → is_plain (step default_config s c).0 ≡ true
step_plain st.StartRecord c p e = start_record_plain c e
step_plain st.StartField c p e = start_field_plain c e
step_plain st.InField c p e = in_field_plain c
step_plain st.AfterCr c p e = either (c == 10) (st.StartRecord, act.Skip) (start_record default_config c) refl (start_record_plain c e)
step_plain st.InQuoted c p e = absurd (false≢true p)
step_plain st.InEscape c p e = absurd (false≢true p)
step_plain st.AfterQuote c p e = absurd (false≢true p)
step_plain st.InComment c p e = absurd (false≢true p)

line_ends : (s : State) → is_plain s ≡ true → (step default_config s 10).0 ≡ st.StartRecord
line_ends st.StartRecord p = refl
line_ends st.StartField p = refl
line_ends st.InField p = refl
line_ends st.AfterCr p = refl
line_ends st.InQuoted p = absurd (false≢true p)
line_ends st.InEscape p = absurd (false≢true p)
line_ends st.AfterQuote p = absurd (false≢true p)
line_ends st.InComment p = absurd (false≢true p)

no_quote : (c : ℕ) → (Some c ≢ Some 34) → c == 34 ≡ false
no_quote c h = elim (cases_Bool (c == 34)) [
  | inl e ↦ absurd (h (ap Some (grind (arith, e))))
  | inr e ↦ e
]

leads : (s : State) (line : List ℕ) → is_plain s ≡ true → HasNoQuote line → LeadsToStart s (line ++ 10 ∷ [])
unfolding LeadsToStart
leads s [] p none = line_ends s p
leads s (c ∷ rest) p none = leads (step default_config s c).0 rest (step_plain s c p (no_quote c (none 0))) (λ i. none (suc i))

no_mark : (p x : ℕ) → is_bom p 10 x ≡ false
no_mark p x = elim (cases_Bool (p == 0xEF)) [
  | inl e ↦ rw e refl
  | inr e ↦ rw e refl
]

no_third : (p q : ℕ) → is_bom p q 10 ≡ false
no_third p q = elim (cases_Bool (p == 0xEF)) [
  | inl e ↦ rw e (elim (cases_Bool (q == 0xBB)) [
    | inl f ↦ rw f refl
    | inr f ↦ rw f refl
  ])
  | inr e ↦ rw e refl
]

-- a byte order mark is one of the first part
strip_behind : (line b : List ℕ) → HasNoQuote line → (more : List ℕ) × (HasNoQuote more) × (strip_bom (line ++ 10 ∷ []) ≡ more ++ 10 ∷ []) × (strip_bom ((line ++ 10 ∷ []) ++ b) ≡ strip_bom (line ++ 10 ∷ []) ++ b)
unfolding strip_bom
strip_behind [] [] none = ([], none, refl, refl)
strip_behind [] (x ∷ []) none = ([], none, refl, refl)
strip_behind [] (x ∷ y ∷ b) none = ([], none, refl, refl)
strip_behind (p ∷ []) [] none = (p ∷ [], none, refl, refl)
strip_behind (p ∷ []) (x ∷ b) none = (p ∷ [], none, refl, rw (no_mark p x) refl)
strip_behind (p ∷ q ∷ []) b none = (p ∷ q ∷ [], none, rw (no_third p q) refl, rw (no_third p q) refl)
strip_behind (p ∷ q ∷ r ∷ line) b none = elim (cases_Bool (is_bom p q r)) [
  | inl e ↦ rw e (line, (λ i. none (suc (suc (suc i)))), refl, refl)
  | inr e ↦ rw e (p ∷ q ∷ r ∷ line, none, refl, refl)
]

strip_plain : (b : List ℕ) → BeginsPlain b → strip_bom b ≡ b
unfolding strip_bom
strip_plain [] h = refl
strip_plain (a ∷ []) h = refl
strip_plain (a ∷ b ∷ []) h = refl
strip_plain (a ∷ b ∷ c ∷ rest) h =
    let other : a == 0xEF ≡ false = elim (cases_Bool (a == 0xEF)) [
      | inl e ↦ absurd (h (ap Some (grind (arith, e))))
      | inr e ↦ e
    ] in
    rw other refl

stands_left : (xs ys : List ℕ) (i c : ℕ) → slice_get xs i ≡ Some c → slice_get (xs ++ ys) i ≡ Some c
stands_left [] ys i c h = cc h
stands_left (x ∷ xs) ys zero c h = h
stands_left (x ∷ xs) ys (suc i) c h = stands_left xs ys i c h

-- the bytes of a line stand in the text
quiet : (line a : List ℕ) → a ≡ line ++ 10 ∷ [] → HasNoQuote a → HasNoQuote line
quiet line a is none i there = none i (ap (λ (t : List ℕ). slice_get t i) is ∙ stands_left line (10 ∷ []) i 34 there)

-- whole lines without a quotation mark lead from where a record begins to where one begins
pub lines_lead : (a : List ℕ) → HasNoQuote a → EndsLine a → LeadsToStart st.StartRecord a
lines_lead a none (line, is) = subst (λ (t : List ℕ). LeadsToStart st.StartRecord t) (sym is) (leads st.StartRecord line refl (quiet line a is none))

-- the records of a text that is cut behind a line, where no quotation mark stands before the cut and no byte order mark behind
pub records_cut : (a b : List ℕ) → HasNoQuote a → EndsLine a → BeginsPlain b → records_of (a ++ b) ≡ records_of a ++ records_of b
records_cut a b none (line, is) plain =
    let none_in : HasNoQuote line = quiet line a is none in
    let s = strip_behind line b none_in in
    let whole : strip_bom (a ++ b) ≡ strip_bom a ++ b = ap (λ (t : List ℕ). strip_bom (t ++ b)) is ∙ s.3 ∙ ap (λ (t : List ℕ). strip_bom t ++ b) (sym is) in
    let front : strip_bom a ≡ s.0 ++ 10 ∷ [] = ap strip_bom is ∙ s.2 in
    let from_start : LeadsToStart st.StartRecord (strip_bom a) = subst (λ (t : List ℕ). LeadsToStart st.StartRecord t) (sym front) (leads st.StartRecord s.0 refl s.1) in
    ap (records default_config) whole ∙ records_joined (strip_bom a) b from_start ∙ ap (λ (t : List ℕ). records_of a ++ records default_config t) (sym (strip_plain b plain))
