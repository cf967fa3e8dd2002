-- The records of a text that is cut where no record is open.
use Rattle.std.proofs.Common.{◌≡◌, ◌∙◌, ◌+◌, ◌<◌, ◌∷◌, ◌++◌, ◌⊎◌, [], ℕ, List, length, Option, Some, None, Bool, true, false, refl, sym, ap, subst, arith, zero, suc, inl, inr}
use Rattle.std.specs.Prelude.{◌==◌, ◌||◌, if◌then◌else◌}
use Rattle.std.proofs.lemmas.Bool.{cases_Bool, false≢true}
use Rattle.csv.specs.Machine.{Read, next_record, after_end, step, in_field, start_field, start_record, is_end, fields_after, field_after}
use Rattle.csv.specs.{Reading.{default_config, records, records_from}, declared.parser.{State.State, Action.Action}}
use Rattle.lft_tables.proofs.Fuel.{one-more, no-more, at-end, Shorter, next-shorter}
use Rattle.csv.specs.declared.parser.State.TheVariants as st
use Rattle.csv.specs.declared.parser.Action.TheVariants as act

-- from the state, the bytes lead to where a record begins
unfoldable pub LeadsToStart : State → List ℕ → Type 0
LeadsToStart s [] = s ≡ st.StartRecord
LeadsToStart s (c ∷ rest) = LeadsToStart (step default_config s c).0 rest

-- no field of a record was begun
abbrev pub is_between : State → Bool
is_between st.StartRecord = true
is_between st.AfterCr = true
is_between st.InComment = true
is_between st.StartField = false
is_between st.InField = false
is_between st.InQuoted = false
is_between st.AfterQuote = false
is_between st.InEscape = false

-- a byte that ends no record leaves a field begun where one is begun, and else leaves all as it was or begins one
abbrev StepKeeps : State → State × Action → Type 0
StepKeeps s p = (is_end p.1 ≡ true) ⊎ ((is_between s ≡ false) × (is_between p.0 ≡ false)) ⊎ ((is_between s ≡ true) × ((is_between p.0 ≡ false) ⊎ (p.1 ≡ act.Skip)))

begun : (s : State) (p : State × Action) → is_between p.0 ≡ false → StepKeeps s p
begun s p e = elim (cases_Bool (is_between s)) [
  | inl b ↦ inr (inr (b, inl e))
  | inr b ↦ inr (inl (b, e))
]

either : (s : State) (b : Bool) (x y : State × Action) → StepKeeps s x → StepKeeps s y → StepKeeps s (if b then x else y)
either s b x y hx hy = elim (cases_Bool b) [
  | inl e ↦ rw e hx
  | inr e ↦ rw e hy
]

in_field_keeps : (s : State) (c : ℕ) → StepKeeps s (in_field default_config c)
in_field_keeps s c =
    let copied = either s ((c == 13) || (c == 10)) (after_end default_config.terminator c, act.EndRecord) (st.InField, act.Copy) (inl refl) (begun s (st.InField, act.Copy) refl) in
    either s (c == 44) (st.StartField, act.EndField) (if (c == 13) || (c == 10) then (after_end default_config.terminator c, act.EndRecord) else (st.InField, act.Copy)) (begun s (st.StartField, act.EndField) refl) copied

start_field_keeps : (s : State) (c : ℕ) → StepKeeps s (start_field default_config c)
start_field_keeps s c = either s (c == 34) (st.InQuoted, act.Skip) (in_field default_config c) (begun s (st.InQuoted, act.Skip) refl) (in_field_keeps s c)

skipped : (s next : State) → is_between s ≡ true → StepKeeps s (next, act.Skip)
skipped s next b = inr (inr (b, inr refl))

start_record_keeps : (s : State) (c : ℕ) → is_between s ≡ true → StepKeeps s (start_record default_config c)
start_record_keeps s c b = either s ((c == 13) || (c == 10)) (st.StartRecord, act.Skip) (start_field default_config c) (skipped s st.StartRecord b) (start_field_keeps s c)

step_keeps : (s : State) (c : ℕ) → StepKeeps s (step default_config s c)
step_keeps st.StartRecord c = start_record_keeps st.StartRecord c refl
step_keeps st.StartField c = start_field_keeps st.StartField c
step_keeps st.InField c = in_field_keeps st.InField c
step_keeps st.InQuoted c = either st.InQuoted (c == 34) (st.AfterQuote, act.Skip) (st.InQuoted, act.Copy) (begun st.InQuoted (st.AfterQuote, act.Skip) refl) (begun st.InQuoted (st.InQuoted, act.Copy) refl)
step_keeps st.InEscape c = begun st.InEscape (st.InQuoted, act.Copy) refl
step_keeps st.AfterQuote c = either st.AfterQuote (c == 34) (st.InQuoted, act.Copy) (in_field default_config c) (begun st.AfterQuote (st.InQuoted, act.Copy) refl) (in_field_keeps st.AfterQuote c)
step_keeps st.InComment c = either st.InComment (c == 10) (st.StartRecord, act.Skip) (st.InComment, act.Skip) (skipped st.InComment st.StartRecord refl) (skipped st.InComment st.InComment refl)
step_keeps st.AfterCr c = either st.AfterCr (c == 10) (st.StartRecord, act.Skip) (start_record default_config c) (skipped st.AfterCr st.StartRecord refl) (start_record_keeps st.AfterCr c refl)

-- the same record, with more bytes behind it
abbrev put_behind : List ℕ → Read → Read
put_behind b q = (q.0, q.1, q.2 ++ b)

-- the first record of bytes that lead to where one begins, with more bytes behind: it is the same, or the bytes have none
abbrev IsJoined : State → List (List ℕ) → List ℕ → List ℕ → List ℕ → Type 0
IsJoined s fields field a b =
    ((q : Read) × (next_record default_config s fields field a ≡ Some q) × LeadsToStart q.1 q.2 × (next_record default_config s fields field (a ++ b) ≡ Some (put_behind b q)))
    ⊎ ((is_between s ≡ true) × (next_record default_config s fields field a ≡ None) × (next_record default_config s fields field (a ++ b) ≡ next_record default_config st.StartRecord fields field b))

-- one byte more before them
further : (s : State) (p : State × Action) (fields : List (List ℕ)) (field : List ℕ) (c : ℕ) (rest b : List ℕ)
    → StepKeeps s p → is_end p.1 ≡ false → IsJoined p.0 (fields_after p.1 fields field) (field_after p.1 c field) rest b
    → ((q : Read) × (next_record default_config p.0 (fields_after p.1 fields field) (field_after p.1 c field) rest ≡ Some q) × LeadsToStart q.1 q.2 × (next_record default_config p.0 (fields_after p.1 fields field) (field_after p.1 c field) (rest ++ b) ≡ Some (put_behind b q)))
    ⊎ ((is_between s ≡ true) × (next_record default_config p.0 (fields_after p.1 fields field) (field_after p.1 c field) rest ≡ None) × (next_record default_config p.0 (fields_after p.1 fields field) (field_after p.1 c field) (rest ++ b) ≡ next_record default_config st.StartRecord fields field b))
further s p fields field c rest b k e (inl found) = inl found
further s p fields field c rest b (inl ended) e (inr m) = absurd (false≢true (sym e ∙ ended))
further s p fields field c rest b (inr (inl both)) e (inr m) = absurd (false≢true (sym both.1 ∙ m.0))
further s p fields field c rest b (inr (inr (between, inl opened))) e (inr m) = absurd (false≢true (sym opened ∙ m.0))
further s p fields field c rest b (inr (inr (between, inr skip))) e (inr m) = inr (between, m.1, m.2 ∙ ap (λ (a : Action). next_record default_config st.StartRecord (fields_after a fields field) (field_after a c field) b) skip)

joined : (s : State) (fields : List (List ℕ)) (field a b : List ℕ) → LeadsToStart s a → IsJoined s fields field a b
unfolding LeadsToStart next_record
joined s fields field [] b h = rw h (inr (refl, refl, refl))
joined s fields field (c ∷ rest) b h =
    let p = step default_config s c in
    let more = joined p.0 (fields_after p.1 fields field) (field_after p.1 c field) rest b h in
    elim (cases_Bool (is_end p.1)) [
      | inl e ↦ rw e (inl ((fields_after p.1 fields field, p.0, rest), refl, h, refl))
      | inr e ↦ rw e (further s p fields field c rest b (step_keeps s c) e more)
    ]

-- the records of bytes from a state
abbrev pub records_at : State → List ℕ → List (List (List ℕ))
records_at s xs = records_from default_config (length xs + 1) s xs

none_before : (s : State) (a b : List ℕ) → next_record default_config s [] [] (a ++ b) ≡ next_record default_config st.StartRecord [] [] b
    → (o : Option Read) → next_record default_config st.StartRecord [] [] b ≡ o → records_at s (a ++ b) ≡ records_at st.StartRecord b
none_before s a b e None n = no-more default_config s (a ++ b) (e ∙ n) ∙ sym (no-more default_config st.StartRecord b n)
none_before s a b e (Some p) n = one-more default_config s (a ++ b) p (e ∙ n) ∙ sym (one-more default_config st.StartRecord b p n)

shorter_of : (a : List ℕ) (o : Option Read) (q : Read) → o ≡ Some q → Shorter a o → (length q.2 < length a) ⊎ ((q.1 ≡ st.StartRecord) × (q.2 ≡ []))
shorter_of a None q e h = cc e
shorter_of a (Some p) q e h =
    let same : p ≡ q = cc e in
    subst (λ (x : Read). (length x.2 < length a) ⊎ ((x.1 ≡ st.StartRecord) × (x.2 ≡ []))) same h

-- the records of bytes that lead to where one begins, and then those of the bytes behind
joined_below : (n : ℕ) (s : State) (a b : List ℕ) → length a < n → LeadsToStart s a → records_at s (a ++ b) ≡ records_at s a ++ records_at st.StartRecord b
joined_below zero s a b l h = absurd (omega arith)
joined_below (suc n) s a b l h = elim (joined s [] [] a b h) [
  | inl (q, found, leads, behind) ↦
      let first : records_at s a ≡ q.0 ∷ records_at q.1 q.2 = one-more default_config s a q found in
      let whole : records_at s (a ++ b) ≡ q.0 ∷ records_at q.1 (q.2 ++ b) = one-more default_config s (a ++ b) (put_behind b q) behind in
      let rest : records_at q.1 (q.2 ++ b) ≡ records_at q.1 q.2 ++ records_at st.StartRecord b =
      elim (shorter_of a (next_record default_config s [] [] a) q found (next-shorter default_config s [] [] a)) [
        | inl less ↦ joined_below n q.1 q.2 b (omega (arith, less, l)) leads
        | inr (start, none) ↦ rw (start, none) (ap (λ (r : List (List (List ℕ))). r ++ records_at st.StartRecord b) (sym (at-end default_config 1)))
      ] in
      whole ∙ ap (λ (r : List (List (List ℕ))). q.0 ∷ r) rest ∙ ap (λ (r : List (List (List ℕ))). r ++ records_at st.StartRecord b) (sym first)
  | inr (between, none, behind) ↦
      none_before s a b behind (next_record default_config st.StartRecord [] [] b) refl
      ∙ ap (λ (r : List (List (List ℕ))). r ++ records_at st.StartRecord b) (sym (no-more default_config s a none))
]

pub records_joined : (a b : List ℕ) → LeadsToStart st.StartRecord a → records default_config (a ++ b) ≡ records default_config a ++ records default_config b
records_joined a b h = joined_below (length a + 1) st.StartRecord a b (omega arith) h
