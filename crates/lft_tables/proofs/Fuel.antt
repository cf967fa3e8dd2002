-- The records of a text don't depend on how many steps are allowed, where there are enough.
use Rattle.std.proofs.Common.{◌≡◌, ◌∙◌, ◌+◌, ◌≤◌, ◌<◌, ◌∷◌, [], ℕ, zero, suc, List, length, Option, Some, None, true, false, refl, sym, ap, arith, inl, inr, ◌⊎◌}
use Rattle.std.specs.Prelude.{⊤}
use Rattle.std.proofs.lemmas.Bool.{cases_Bool}
use Rattle.csv.specs.Machine.{Read, next_record, step, is_end, fields_after, field_after, ends_at_end}
use Rattle.csv.specs.Reading.{Reached, ReadRecord, Ready, default_config, records_from, records_next}
use Rattle.csv.specs.declared.{parser.{Config.Config, State.State}, reader.Reader.Reader}
use Rattle.csv.proofs.ReadFacts.{rows-more, rows-end}
use Rattle.lft_tables.specs.inner.Records.{IsPlainReader, records_unread}
use Rattle.csv.specs.declared.parser.State.TheVariants as st

-- a record takes a byte, or is the last one
abbrev pub Shorter : List ℕ → Option Read → Type 0
Shorter xs None = ⊤
Shorter xs (Some p) = (length p.2 < length xs) ⊎ ((p.1 ≡ st.StartRecord) × (p.2 ≡ []))

shorter-more : (c : ℕ) (rest : List ℕ) (o : Option Read) → Shorter rest o → Shorter (c ∷ rest) o
shorter-more c rest None h = tt
shorter-more c rest (Some p) (inl h) = inl (omega arith)
shorter-more c rest (Some p) (inr h) = inr h

pub next-shorter : (cfg : Config) (s : State) (fields : List (List ℕ)) (field xs : List ℕ) → Shorter xs (next_record cfg s fields field xs)
unfolding next_record
next-shorter cfg s fields field [] = elim (cases_Bool (ends_at_end s)) [
  | inl e ↦ rw e (inr (refl, refl))
  | inr e ↦ rw e tt
]
next-shorter cfg s fields field (c ∷ rest) = elim (cases_Bool (is_end (step cfg s c).1)) [
  | inl e ↦ rw e (inl (omega arith))
  | inr e ↦ rw e (shorter-more c rest _ (next-shorter cfg (step cfg s c).0 (fields_after (step cfg s c).1 fields field) (field_after (step cfg s c).1 c field) rest))
]

-- nothing is left at the end of a text
pub at-end : (cfg : Config) (n : ℕ) → records_from cfg n st.StartRecord [] ≡ []
unfolding records_from next_record
at-end cfg zero = refl
at-end cfg (suc n) = refl

-- the records after a first one, for two numbers of steps that agree on shorter texts
enough-after : (cfg : Config) (n m : ℕ) (xs : List ℕ) (o : Option Read) → Shorter xs o
    → ((s : State) (ys : List ℕ) → length ys < length xs → records_from cfg n s ys ≡ records_from cfg m s ys)
    → records_next (records_from cfg n) o ≡ records_next (records_from cfg m) o
enough-after cfg n m xs None h same = refl
enough-after cfg n m xs (Some p) (inl h) same = ap (λ (r : List (List (List ℕ))). p.0 ∷ r) (same p.1 p.2 h)
enough-after cfg n m xs (Some p) (inr h) same = ap (λ (r : List (List (List ℕ))). p.0 ∷ r) (rw (h.0, h.1) (at-end cfg n ∙ sym (at-end cfg m)))

pub enough : (cfg : Config) (n m : ℕ) (s : State) (xs : List ℕ) → length xs < n → length xs < m → records_from cfg n s xs ≡ records_from cfg m s xs
unfolding records_from
enough cfg zero m s xs a b = absurd (omega arith)
enough cfg (suc n) zero s xs a b = absurd (omega arith)
enough cfg (suc n) (suc m) s xs a b =
    enough-after cfg n m xs (next_record cfg s [] [] xs) (next-shorter cfg s [] [] xs) (λ t ys h. enough cfg n m t ys (omega arith) (omega arith))

after-one : (cfg : Config) (n : ℕ) (xs : List ℕ) (o : Option Read) (p : Read) → Shorter xs o → o ≡ Some p → length xs ≤ n
    → records_next (records_from cfg n) o ≡ p.0 ∷ records_from cfg (length p.2 + 1) p.1 p.2
after-one cfg n xs None p h e l = cc e
after-one cfg n xs (Some q) p (inl h) e l =
    let same : p ≡ q = cc e in
    rw same (ap (λ (r : List (List (List ℕ))). q.0 ∷ r) (enough cfg n (length q.2 + 1) q.1 q.2 (omega arith) (omega arith)))
after-one cfg n xs (Some q) p (inr h) e l =
    let same : p ≡ q = cc e in
    rw same (ap (λ (r : List (List (List ℕ))). q.0 ∷ r) (rw (h.0, h.1) (at-end cfg n ∙ sym (at-end cfg _))))

to-suc : (cfg : Config) (s : State) (xs : List ℕ) → records_from cfg (length xs + 1) s xs ≡ records_from cfg (suc (length xs)) s xs
to-suc cfg s xs =
    let e : length xs + 1 ≡ suc (length xs) = omega arith in
    ap (λ (n : ℕ). records_from cfg n s xs) e

one-step : (cfg : Config) (s : State) (xs : List ℕ) (p : Read) → next_record cfg s [] [] xs ≡ Some p
    → records_from cfg (suc (length xs)) s xs ≡ p.0 ∷ records_from cfg (length p.2 + 1) p.1 p.2
unfolding records_from
one-step cfg s xs p e = after-one cfg (length xs) xs (next_record cfg s [] [] xs) p (next-shorter cfg s [] [] xs) e (omega arith)

no-step : (cfg : Config) (s : State) (xs : List ℕ) → next_record cfg s [] [] xs ≡ None → records_from cfg (suc (length xs)) s xs ≡ []
unfolding records_from
no-step cfg s xs e = rw e refl

-- the first record of what is left, and the rest
pub one-more : (cfg : Config) (s : State) (xs : List ℕ) (p : Read) → next_record cfg s [] [] xs ≡ Some p
    → records_from cfg (length xs + 1) s xs ≡ p.0 ∷ records_from cfg (length p.2 + 1) p.1 p.2
one-more cfg s xs p e = to-suc cfg s xs ∙ one-step cfg s xs p e

pub no-more : (cfg : Config) (s : State) (xs : List ℕ) → next_record cfg s [] [] xs ≡ None → records_from cfg (length xs + 1) s xs ≡ []
no-more cfg s xs e = to-suc cfg s xs ∙ no-step cfg s xs e

none-yet : (s : State) (y : List ℕ) → Reached default_config s y [] s y
unfolding Reached
none-yet s y = (refl, refl)

reached-one : (s s2 : State) (f : List (List ℕ)) (y z : List ℕ) → Reached default_config s y (f ∷ []) s2 z
    → records_from default_config (length y + 1) s y ≡ f ∷ records_from default_config (length z + 1) s2 z
unfolding Reached
reached-one s s2 f y z h = one-more default_config s y h.0 h.1 ∙ rw (h.2, h.3.0, h.3.1) refl

-- a read that found a record leaves the others, and the reader as it was
pub read-more : {R : Type 0} (remaining : R → Option (List ℕ)) (a b : Reader R) (f : List (List ℕ)) → IsPlainReader remaining a → Ready b → ReadRecord remaining a b true f → IsPlainReader remaining b × (records_unread remaining a ≡ f ∷ records_unread remaining b)
read-more remaining a b f p ready r =
    let m = rows-more remaining a b f default_config a.state p.3 p.3 [] p.2 p.4 (none-yet a.state p.3) r in
    ((r.3 ∙ p.0, ready, r.2 ∙ p.2, m.0, m.1), rw (p.4, m.1) (reached-one a.state b.state f p.3 m.0 m.2))

-- a read that found none was at the end
pub read-none : {R : Type 0} (remaining : R → Option (List ℕ)) (a b : Reader R) (f : List (List ℕ)) → IsPlainReader remaining a → ReadRecord remaining a b false f → records_unread remaining a ≡ []
read-none remaining a b f p r = rw p.4 (no-more default_config a.state p.3 (rows-end remaining a b f default_config p.3 p.2 p.4 r))
