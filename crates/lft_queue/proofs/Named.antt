-- The names that have an event at a tag.
use Rattle.std.proofs.Common.{◌≡◌, ◌↔◌, ◌∙◌, ◌⊎◌, inl, inr, ◌<◌, ℕ, zero, suc, List, [], ◌∷◌, length, map, get_or, Some, IsSome, refl, sym, ap, subst, arith, Bool, true, false, cond, ◌&&◌, ◌==◌, eqb-true, Contains}
use Rattle.std.specs.{List.{AllByRecursion, filter, Sorted.IsStrictlySortedBy}, Map.keys_of}
use Rattle.std.specs.{declared.cmp.Ordering.{Ordering, TheVariants.{Less, Equal, Greater}}, Ordering.{is_le, nat_cmp, bool_cmp, ordering_then}}
use Rattle.std.proofs.lemmas.{Bool.{false≢true, Decides.nat_tests}, List.Kept.IsStrictlySortedBy-filter}
use Rattle.lft_tag.{specs.{declared.Tag.Tag, Tags.{Before, UpTo, same_tag}}, proofs.Order.Before-UpTo}
use Rattle.lft_ir.{specs.{declared.parts.{Value.Value, Name.{Name, TheVariants.Port}}, Naming.same_name}, proofs.Naming.{name_same, name_self}}
use Rattle.lft_queue.specs.{Pending.{Pending, value_of, is_at}, inner.{Pending.names_at, Keys.{Key, key_of, key_tag, pending_at, key_cmp, AreFrom}}}
use Rattle.lft_queue.proofs.{Entries.{follows, equal_up}, Tests.{tag_apart, past}}

contains_first : {X : Type 0} (x : X) (xs : List X) → Contains (x ∷ xs) x
contains_first x xs = (0, omega arith, refl)

contains_rest : {X : Type 0} (y x : X) (xs : List X) → Contains xs x → Contains (y ∷ xs) x
contains_rest y x xs c = let l : c.0 < length xs = c.1 in (suc c.0, omega arith, c.2)

contains_cases : {X : Type 0} (y x : X) (xs : List X) → Contains (y ∷ xs) x → (y ≡ x) ⊎ Contains xs x
contains_cases {X} y x xs c = at c.0 c.1 c.2
  where
    at : (k : ℕ) → k < length (y ∷ xs) → get_or (y ∷ xs) k x ≡ x → (y ≡ x) ⊎ Contains xs x
    at zero l e = inl e
    at (suc k) l e = inr (k, omega arith, e)

-- the names at a tag are those that have a value there
pub named : (g : Tag) (n : Name) (es : List Pending) → Contains (names_at g es) n ↔ IsSome (value_of g n es)
named g n [] = (λ c. (let l : c.0 < 0 = c.1 in absurd (omega arith)), λ s. absurd (cc))
named g n (e ∷ es) = go (same_tag g e.tag) (same_name n e.name) refl (named g n es)
  where
    rest : (e.name ≡ n) ⊎ Contains (names_at g es) n → same_name n e.name ≡ false → Contains (names_at g es) n
    rest (inl same) q = absurd (false≢true (sym q ∙ subst (λ (m : Name). same_name n m ≡ true) (sym same) (name_self n)))
    rest (inr c) q = c

    go : (a b : Bool) → same_name n e.name ≡ b → Contains (names_at g es) n ↔ IsSome (value_of g n es) → Contains (map (λ (x : Pending). x.name) (cond a (e ∷ filter (is_at g) es) (filter (is_at g) es))) n ↔ IsSome (cond (a && b) (Some e.value) (value_of g n es))
    go true true q others = (λ c. refl, λ s. subst (λ (m : Name). Contains (e.name ∷ names_at g es) m) (sym (name_same n e.name q)) (contains_first e.name (names_at g es)))
    go true false q others = (λ c. others.0 (rest (contains_cases e.name n (names_at g es) c) q), λ s. contains_rest e.name n (names_at g es) (others.1 s))
    go false b q others = others

-- the test by which a range begins at the first key of the tag
abbrev pub is_from : Tag → Key → Bool
is_from g k = is_le (key_cmp (key_of g (Port 0)) k) && true

-- the entries from that key on
abbrev pub from_on : Tag → List (Key × Value) → List (Key × Value)
from_on g es = filter (λ e. is_from g e.0) es

least_zero : (n : ℕ) → is_le (nat_cmp 0 n) ≡ true
least_zero n = grind (arith, nat_tests)

equal_nat : (a b : ℕ) → a ≡ b → nat_cmp a b ≡ Equal
equal_nat a b e = grind (arith, nat_tests)

from_up : (g : Tag) (k : Key) → is_from g k ≡ true → UpTo g (key_tag k)
from_up g k = go (key_cmp (key_of g (Port 0)) k) refl
  where
    go : (o : Ordering) → key_cmp (key_of g (Port 0)) k ≡ o → is_le o && true ≡ true → UpTo g (key_tag k)
    go Less e q = follows (key_of g (Port 0)) k e
    go Equal e q = equal_up (key_of g (Port 0)) k e
    go Greater e q = absurd (cc)

at_from : (g : Tag) (k : Key) → same_tag g (key_tag k) ≡ true → is_from g k ≡ true
at_from g k e = by_time (g.time == k.0) (g.micro == k.1) refl refl e
  where
    by_last : (b : Bool) → is_le (ordering_then (bool_cmp false b) (nat_cmp 0 k.3)) && true ≡ true
    by_last true = refl
    by_last false = let z : is_le (nat_cmp 0 k.3) ≡ true = least_zero k.3 in rw z refl

    by_time : (a b : Bool) → (g.time == k.0) ≡ a → (g.micro == k.1) ≡ b → a && b ≡ true → is_from g k ≡ true
    by_time true true p q f =
        let t : nat_cmp g.time k.0 ≡ Equal = equal_nat g.time k.0 (eqb-true g.time k.0 p) in
        let m : nat_cmp g.micro k.1 ≡ Equal = equal_nat g.micro k.1 (eqb-true g.micro k.1 q) in
        ap (λ (o : Ordering). is_le (ordering_then (ordering_then (ordering_then o (nat_cmp g.micro k.1)) (bool_cmp false k.2)) (nat_cmp 0 k.3)) && true) t ∙ ap (λ (o : Ordering). is_le (ordering_then (ordering_then o (bool_cmp false k.2)) (nat_cmp 0 k.3)) && true) m ∙ by_last k.2
    by_time true false p q f = absurd (cc)
    by_time false b p q f = absurd (cc)

keys_kept : (p : Key → Bool) (es : List (Key × Value)) → keys_of (filter (λ e. p e.0) es) ≡ filter p (keys_of es)
keys_kept p [] = refl
keys_kept p (e ∷ es) = go (p e.0) (keys_kept p es)
  where
    go : (b : Bool) → keys_of (filter (λ (x : Key × Value). p x.0) es) ≡ filter p (keys_of es) → keys_of (cond b (e ∷ filter (λ (x : Key × Value). p x.0) es) (filter (λ (x : Key × Value). p x.0) es)) ≡ cond b (e.0 ∷ filter p (keys_of es)) (filter p (keys_of es))
    go true q = ap (λ (ks : List Key). e.0 ∷ ks) q
    go false q = q

-- the entries from the first key of the tag on
module _ (g : Tag) where
  all_from : (ks : List Key) → AllByRecursion (λ k. UpTo g (key_tag k)) (filter (is_from g) ks)
  all_from [] = tt
  all_from (k ∷ ks) = go (is_from g k) refl (all_from ks)
    where
      go : (b : Bool) → is_from g k ≡ b → AllByRecursion (λ x. UpTo g (key_tag x)) (filter (is_from g) ks) → AllByRecursion (λ x. UpTo g (key_tag x)) (cond b (k ∷ filter (is_from g) ks) (filter (is_from g) ks))
      go true e a = (from_up g k e, a)
      go false e a = a

  pub are_from : (es : List (Key × Value)) → IsStrictlySortedBy key_cmp (keys_of es) → AreFrom g (from_on g es)
  are_from es s = record {
    ordered = subst (λ (ks : List Key). IsStrictlySortedBy key_cmp ks) (sym (keys_kept (is_from g) es)) (IsStrictlySortedBy-filter key_cmp (is_from g) (keys_of es) s);
    from = subst (λ (ks : List Key). AllByRecursion (λ k. UpTo g (key_tag k)) ks) (sym (keys_kept (is_from g) es)) (all_from (keys_of es));
  }

  -- those before it name nothing at the tag
  pub names_from : (es : List (Key × Value)) → names_at g (map pending_at (from_on g es)) ≡ names_at g (map pending_at es)
  names_from [] = refl
  names_from (e ∷ es) = by_start (is_from g e.0) refl (names_from es)
    where
      by_tag : (b : Bool) → names_at g (map pending_at (from_on g es)) ≡ names_at g (map pending_at es) → map (λ (x : Pending). x.name) (cond b (pending_at e ∷ filter (is_at g) (map pending_at (from_on g es))) (filter (is_at g) (map pending_at (from_on g es)))) ≡ map (λ (x : Pending). x.name) (cond b (pending_at e ∷ filter (is_at g) (map pending_at es)) (filter (is_at g) (map pending_at es)))
      by_tag true q = ap (λ (ns : List Name). (pending_at e).name ∷ ns) q
      by_tag false q = q

      apart : (b : Bool) → same_tag g (key_tag e.0) ≡ b → is_from g e.0 ≡ false → names_at g (map pending_at (from_on g es)) ≡ names_at g (map pending_at es) → names_at g (map pending_at (from_on g es)) ≡ map (λ (x : Pending). x.name) (cond b (pending_at e ∷ filter (is_at g) (map pending_at es)) (filter (is_at g) (map pending_at es)))
      apart true s f q = absurd (false≢true (sym f ∙ at_from g e.0 s))
      apart false s f q = q

      by_start : (b : Bool) → is_from g e.0 ≡ b → names_at g (map pending_at (from_on g es)) ≡ names_at g (map pending_at es) → names_at g (map pending_at (cond b (e ∷ from_on g es) (from_on g es))) ≡ names_at g (map pending_at (e ∷ es))
      by_start true f q = by_tag (same_tag g (key_tag e.0)) q
      by_start false f q = apart (same_tag g (key_tag e.0)) refl f q

-- the first of the events from a tag on
module _ (g : Tag) (k : Key) (v : Value) (es : List (Key × Value)) (are : AreFrom g ((k, v) ∷ es)) where
  pub rest_from : AreFrom g es
  unfolding IsStrictlySortedBy
  rest_from = record { ordered = are.ordered.1; from = are.from.1 }

  -- or after it, as all others are then
  pub none_named : ¬ (g ≡ key_tag k) → (names_at g (map pending_at ((k, v) ∷ es)) ≡ []) × (names_at g (map pending_at es) ≡ [])
  unfolding IsStrictlySortedBy
  none_named n = (ap (λ (b : Bool). map (λ (x : Pending). x.name) (cond b (pending_at (k, v) ∷ filter (is_at g) (map pending_at es)) (filter (is_at g) (map pending_at es)))) (tag_apart g (key_tag k) later) ∙ none es are.ordered.0, none es are.ordered.0)
    where
      later : Before g (key_tag k)
      later = past g (key_tag k) are.from.0 n

      none : (fs : List (Key × Value)) → AllByRecursion (λ y. key_cmp k y ≡ Less) (keys_of fs) → names_at g (map pending_at fs) ≡ []
      none [] s = refl
      none (f ∷ fs) s = ap (λ (b : Bool). map (λ (x : Pending). x.name) (cond b (pending_at f ∷ filter (is_at g) (map pending_at fs)) (filter (is_at g) (map pending_at fs)))) (tag_apart g (key_tag f.0) (Before-UpTo g (key_tag k) (key_tag f.0) later (follows k f.0 s.0))) ∙ none fs s.1
