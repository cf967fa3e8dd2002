-- The numbers of reactors that have a name.
use Rattle.std.proofs.Common.{◌≡◌, ℕ, ◌+◌, ◌<◌, zero, suc, Bool, true, false, cond, List, [], ◌∷◌, ◌++◌, map, take, length, get_or, slice_get, is_some, Option, Some, None, MatchOption, append-nil, refl, sym, ap, subst, ◌∙◌, arith}
use Rattle.std.{specs.Option.option_and_then, proofs.lemmas.Grind.common_steps}
use Rattle.lft_tree.specs.Tree.{ReactorTree}
use Rattle.lft_resolve.specs.{Instances.reactor_named, inner.{Numbers.numbers_of, Places.place}}
use Rattle.lft_resolve.proofs.{Files.named-place, NamedReactors.{named, with_name}, Twice.map_last}

pub numbers_of-push : (n m : ℕ) (rs : List ReactorTree) (r : ReactorTree) → m ≡ n + length rs → numbers_of n (rs ++ r ∷ []) ≡ numbers_of n rs ++ cond (is_some r.name) (m ∷ []) []
numbers_of-push n m [] r is = by (is_some r.name)
  where
    same : m ≡ n
    same = omega arith

    by : (b : Bool) → cond b (n ∷ []) [] ≡ cond b (m ∷ []) []
    by true = ap (λ k. k ∷ []) (sym same)
    by false = refl
numbers_of-push n m (x ∷ rs) r is = by (is_some x.name) (numbers_of-push (n + 1) m rs r (omega arith))
  where
    by : (b : Bool) → numbers_of (n + 1) (rs ++ r ∷ []) ≡ numbers_of (n + 1) rs ++ cond (is_some r.name) (m ∷ []) [] → cond b (n ∷ numbers_of (n + 1) (rs ++ r ∷ [])) (numbers_of (n + 1) (rs ++ r ∷ [])) ≡ cond b (n ∷ numbers_of (n + 1) rs) (numbers_of (n + 1) rs) ++ cond (is_some r.name) (m ∷ []) []
    by true e = ap (λ l. n ∷ l) e
    by false e = e

-- a number leads to its reactor
pub number_back : (rs : List ReactorTree) (m k n : ℕ) → slice_get (numbers_of m rs) k ≡ Some n → (j : ℕ) × (r : ReactorTree) × (n ≡ m + j) × (slice_get rs j ≡ Some r) × (slice_get (with_name rs) k ≡ Some r)
number_back [] m k n at = absurd (cc)
number_back (x ∷ rs) m k n at = by (is_some x.name) k (λ i a. number_back rs (m + 1) i n a) at
  where
    past : (w : List ReactorTree) (i : ℕ) → (j : ℕ) × (r : ReactorTree) × (n ≡ m + 1 + j) × (slice_get rs j ≡ Some r) × (slice_get (with_name rs) i ≡ Some r) → (j : ℕ) × (r : ReactorTree) × (n ≡ m + j) × (slice_get (x ∷ rs) j ≡ Some r) × (slice_get (with_name rs) i ≡ Some r)
    past w i (j, r, is, at, there) = (suc j, r, omega arith, at, there)

    by : (b : Bool) (i : ℕ) → ((i : ℕ) → slice_get (numbers_of (m + 1) rs) i ≡ Some n → (j : ℕ) × (r : ReactorTree) × (n ≡ m + 1 + j) × (slice_get rs j ≡ Some r) × (slice_get (with_name rs) i ≡ Some r)) → slice_get (cond b (m ∷ numbers_of (m + 1) rs) (numbers_of (m + 1) rs)) i ≡ Some n → (j : ℕ) × (r : ReactorTree) × (n ≡ m + j) × (slice_get (x ∷ rs) j ≡ Some r) × (slice_get (cond b (x ∷ with_name rs) (with_name rs)) i ≡ Some r)
    by true zero go a = (zero, x, (let e : m ≡ n = cc in omega arith), refl, refl)
    by true (suc i) go a = past (with_name rs) i (go i a)
    by false i go a = past (with_name rs) i (go i a)

pub number_past : (rs : List ReactorTree) (m k : ℕ) → slice_get (numbers_of m rs) k ≡ None → slice_get (with_name rs) k ≡ None
number_past [] m k at = refl
number_past (x ∷ rs) m k at = by (is_some x.name) k (λ i a. number_past rs (m + 1) i a) at
  where
    by : (b : Bool) (i : ℕ) → ((i : ℕ) → slice_get (numbers_of (m + 1) rs) i ≡ None → slice_get (with_name rs) i ≡ None) → slice_get (cond b (m ∷ numbers_of (m + 1) rs) (numbers_of (m + 1) rs)) i ≡ None → slice_get (cond b (x ∷ with_name rs) (with_name rs)) i ≡ None
    by true zero go a = absurd (cc)
    by true (suc i) go a = go i a
    by false i go a = go i a

-- the number at the place of a name is that of its reactor
pub number_named : (rs : List ReactorTree) (q : List ℕ) (k : ℕ) (o : Option ℕ) → place q (named rs) ≡ Some k → o ≡ slice_get (numbers_of 0 rs) k → MatchOption o (reactor_named rs q ≡ None) (λ n. (r : ReactorTree) × (reactor_named rs q ≡ Some r) × (slice_get rs n ≡ Some r))
number_named rs q k None at is = named-place rs q ∙ ap (option_and_then (slice_get (with_name rs))) at ∙ number_past rs 0 k (sym is)
number_named rs q k (Some n) at is =
    let back = number_back rs 0 k n (sym is) in
    let same : back.0 ≡ n = (let e : n ≡ 0 + back.0 = back.2 in omega arith) in
    (back.1, named-place rs q ∙ ap (option_and_then (slice_get (with_name rs))) at ∙ back.4, subst (λ j. slice_get rs j ≡ Some back.1) same back.3)

-- one more reactor, with a name or without
module _ {C : Type 0} (v : C → ReactorTree) (xs : List C) (i : ℕ) (x : C) (lt : i < length xs) (is : get_or xs i x ≡ x) (numbers : List ℕ) (all : numbers ≡ numbers_of 0 (map v (take i xs))) where
  long : i ≡ 0 + length (map v (take i xs))
  long = grind (arith, common_steps)

  pub number_more : is_some (v x).name ≡ true → numbers ++ i ∷ [] ≡ numbers_of 0 (map v (take (i + 1) xs))
  number_more some = ap (λ l. l ++ i ∷ []) all ∙ ap (λ b. numbers_of 0 (map v (take i xs)) ++ cond b (i ∷ []) []) (sym some) ∙ sym (numbers_of-push 0 i (map v (take i xs)) (v x) long) ∙ ap (numbers_of 0) (sym (map_last v xs i x lt is))

  pub number_kept : is_some (v x).name ≡ false → numbers ≡ numbers_of 0 (map v (take (i + 1) xs))
  number_kept none = all ∙ sym (append-nil _) ∙ ap (λ b. numbers_of 0 (map v (take i xs)) ++ cond b (i ∷ []) []) (sym none) ∙ sym (numbers_of-push 0 i (map v (take i xs)) (v x) long) ∙ ap (numbers_of 0) (sym (map_last v xs i x lt is))
