-- Places of names, as lists grow, and what stands at a place.
use Rattle.std.proofs.Common.{◌≡◌, ℕ, suc, Bool, true, false, cond, not, List, [], ◌∷◌, ◌++◌, map, length, slice_get, find, Option, Some, None, option_map, option_copied, Bor, bytes_eq, refl, sym, ap, subst, ◌∙◌}
use Rattle.std.specs.{Option.{option_and_then, is_none, is_some}, Slice.IsItemAt}
use Rattle.std.proofs.lemmas.{Option.{slice_get-get_or, slice_get_past}, Slice.Eq.bytes_eq-Decides}
use Rattle.lft_resolve.specs.{Kinds.first_or_second, inner.Places.place}

abbrev pub here : Bool → ℕ → Option ℕ
here b n = cond b (Some n) None

suc_here : (b : Bool) (n : ℕ) → option_map suc (here b n) ≡ here b (suc n)
suc_here true n = refl
suc_here false n = refl

or_else_suc : (o p : Option ℕ) → option_map suc (first_or_second o p) ≡ first_or_second (option_map suc o) (option_map suc p)
or_else_suc None p = refl
or_else_suc (Some n) p = refl

-- with one more name at the end
pub place-push : (q : List ℕ) (xs : List (List ℕ)) (t : List ℕ) → place q (xs ++ t ∷ []) ≡ first_or_second (place q xs) (here (bytes_eq q t) (length xs))
place-push q [] t = by (bytes_eq q t)
  where
    by : (b : Bool) → cond b (Some 0) None ≡ here b 0
    by true = refl
    by false = refl
place-push q (x ∷ xs) t = by (bytes_eq q x) (place-push q xs t)
  where
    by : (b : Bool) → place q (xs ++ t ∷ []) ≡ first_or_second (place q xs) (here (bytes_eq q t) (length xs)) → cond b (Some 0) (option_map suc (place q (xs ++ t ∷ []))) ≡ first_or_second (cond b (Some 0) (option_map suc (place q xs))) (here (bytes_eq q t) (suc (length xs)))
    by true e = refl
    by false e = ap (option_map suc) e ∙ or_else_suc (place q xs) (here (bytes_eq q t) (length xs)) ∙ ap (first_or_second (option_map suc (place q xs))) (suc_here (bytes_eq q t) (length xs))

pub or_else-none : {X : Type 0} (o : Option X) → first_or_second o None ≡ o
or_else-none None = refl
or_else-none (Some x) = refl

pub or_else-there : {X : Type 0} (o p : Option X) → is_none o ≡ false → first_or_second o p ≡ o
or_else-there None p e = absurd (cc)
or_else-there (Some x) p e = refl

pub is_nothing : {X : Type 0} (o : Option X) → is_none o ≡ true → o ≡ None
is_nothing None e = refl
is_nothing (Some x) e = absurd (cc)

-- a test of texts that is turned round
turned : (s t : List ℕ) → bytes_eq s t ≡ false → bytes_eq t s ≡ false
turned s t e = by (bytes_eq t s) refl
  where
    by : (b : Bool) → bytes_eq t s ≡ b → b ≡ false
    by true f = (let same = (bytes_eq-Decides t s).0 f in let g : bytes_eq s t ≡ true = (bytes_eq-Decides s t).1 (sym same) in absurd (cc))
    by false f = refl

-- a name that wasn't in the list is put at its place
pub place_put : (xs : List (List ℕ)) (t : List ℕ) (n : ℕ) → place t xs ≡ None → n ≡ length xs → (q : List ℕ) → cond (bytes_eq t q) (Some n) (place q xs) ≡ place q (xs ++ t ∷ [])
place_put xs t n none is q = by (bytes_eq t q) refl ∙ sym (place-push q xs t)
  where
    by : (b : Bool) → bytes_eq t q ≡ b → cond (bytes_eq t q) (Some n) (place q xs) ≡ first_or_second (place q xs) (here (bytes_eq q t) (length xs))
    by true e =
        let same : t ≡ q = (bytes_eq-Decides t q).0 e in
        let back : bytes_eq q t ≡ true = (bytes_eq-Decides q t).1 (sym same) in
        let nowhere : place q xs ≡ None = subst (λ s. place s xs ≡ None) same none in
        rw (e, nowhere, back, is) refl
    by false e = let back : bytes_eq q t ≡ false = turned t q e in rw (e, back) (sym (or_else-none (place q xs)))

-- one that was there keeps its place
pub place_kept : (xs : List (List ℕ)) (t : List ℕ) → is_none (place t xs) ≡ false → (q : List ℕ) → place q xs ≡ place q (xs ++ t ∷ [])
place_kept xs t there q = by (bytes_eq q t) refl ∙ sym (place-push q xs t)
  where
    by : (b : Bool) → bytes_eq q t ≡ b → place q xs ≡ first_or_second (place q xs) (here (bytes_eq q t) (length xs))
    by true e = let same : q ≡ t = (bytes_eq-Decides q t).0 e in sym (or_else-there (place q xs) (here (bytes_eq q t) (length xs)) (subst (λ s. is_none (place s xs) ≡ false) (sym same) there))
    by false e = rw e (sym (or_else-none (place q xs)))

-- what is first found is what stands at the name's first place
pub find-place : {X : Type 0} (name : X → List ℕ) (q : List ℕ) (xs : List X) → find (λ x. bytes_eq q (name x)) xs ≡ option_and_then (slice_get xs) (place q (map name xs))
find-place name q [] = refl
find-place {X} name q (x ∷ xs) = by (bytes_eq q (name x)) (find-place name q xs)
  where
    over : (o : Option ℕ) → option_and_then (slice_get xs) o ≡ option_and_then (slice_get (x ∷ xs)) (option_map suc o)
    over None = refl
    over (Some k) = refl

    by : (b : Bool) → find (λ x. bytes_eq q (name x)) xs ≡ option_and_then (slice_get xs) (place q (map name xs)) → cond b (Some x) (find (λ x. bytes_eq q (name x)) xs) ≡ option_and_then (slice_get (x ∷ xs)) (cond b (Some 0) (option_map suc (place q (map name xs))))
    by true e = refl
    by false e = e ∙ over (place q (map name xs))

pub same_test : {X : Type 0} (o : Option X) (r b : Bool) → is_some o ≡ not r → r ≡ b → is_none o ≡ b
same_test None r b is e = by r b is e
  where
    by : (r b : Bool) → false ≡ not r → r ≡ b → true ≡ b
    by true b is e = e
    by false b is e = absurd (cc)
same_test (Some x) r b is e = by r b is e
  where
    by : (r b : Bool) → true ≡ not r → r ≡ b → false ≡ b
    by true b is e = absurd (cc)
    by false b is e = e

-- something is found where the name has a place
pub find-some : {X : Type 0} (name : X → List ℕ) (q : List ℕ) (xs : List X) → is_some (find (λ x. bytes_eq q (name x)) xs) ≡ is_some (place q (map name xs))
find-some name q [] = refl
find-some {X} name q (x ∷ xs) = by (bytes_eq q (name x)) (find-some name q xs)
  where
    over : (o : Option ℕ) → is_some o ≡ is_some (option_map suc o)
    over None = refl
    over (Some k) = refl

    by : (b : Bool) → is_some (find (λ x. bytes_eq q (name x)) xs) ≡ is_some (place q (map name xs)) → is_some (cond b (Some x) (find (λ x. bytes_eq q (name x)) xs)) ≡ is_some (cond b (Some 0) (option_map suc (place q (map name xs))))
    by true e = refl
    by false e = e ∙ over (place q (map name xs))

pub not_some : {X : Type 0} (o : Option X) → is_some o ≡ false → o ≡ None
not_some None e = refl
not_some (Some x) e = absurd (cc)

-- what stands at a name's first place is what is first found
pub place_found : {X : Type 0} (name : X → List ℕ) (q : List ℕ) (xs : List X) (k : ℕ) (x : X) → place q (map name xs) ≡ Some k → slice_get xs k ≡ Some x → find (λ y. bytes_eq q (name y)) xs ≡ Some x
place_found name q xs k x at is = find-place name q xs ∙ ap (option_and_then (slice_get xs)) at ∙ is

-- what is lent of a list at a place that may lie past its end
pub lent : {X : Type 0} (xs : List X) (i : ℕ) (o : Option (Bor X)) → IsItemAt xs i o → option_copied o ≡ slice_get xs i
lent xs i None is = sym (slice_get_past xs i is.3)
lent xs i (Some x) is = ap Some is.1 ∙ sym (slice_get-get_or xs i x.now is.3.0)
