-- Loops that look for some element of a list, and tests that answer.
use Rattle.std.proofs.Common.{◌≡◌, ℕ, ◌+◌, ◌<◌, ◌≤◌, zero, suc, Bool, true, false, IsTrue, ◌↔◌, List, [], ◌∷◌, ◌++◌, map, filter_map, filter, cond, take, length, get_or, Option, Some, None, Any, Contains, IsSomeAnd, ◌≢◌, ◌⊎◌, inl, inr, ⊎_elim, refl, sym, ap, subst, arith}
use Rattle.std.{specs.List.cons_option, proofs.lemmas.Grind.common_steps}

-- what an answer says
pub fails : {P : Type 0} (b : Bool) → IsTrue b ↔ P → b ≡ false → P → ⊥
fails b answer is p = let t : b ≡ true = answer.1 p in cc

module _ {X : Type 0} (P : X → Type 0) where
  pub Any-nil : Any P [] → ⊥
  Any-nil (k, x, within, is, p) = absurd (omega arith)

  pub Any-head : (x : X) (xs : List X) → P x → Any P (x ∷ xs)
  Any-head x xs p = (zero, x, omega arith, refl, p)

  pub Any-tail : (x : X) (xs : List X) → Any P xs → Any P (x ∷ xs)
  Any-tail x xs (k, y, within, is, p) = (suc k, y, omega arith, is, p)

  pub Any-cases : (x : X) (xs : List X) → Any P (x ∷ xs) → P x ⊎ Any P xs
  Any-cases x xs (zero, y, within, is, p) = inl (subst P (sym is) p)
  Any-cases x xs (suc k, y, within, is, p) = inr (k, y, omega arith, is, p)

  pub Any-left : (xs ys : List X) → Any P xs → Any P (xs ++ ys)
  Any-left [] ys a = absurd (Any-nil a)
  Any-left (x ∷ xs) ys a = ⊎_elim (λ p. Any-head x (xs ++ ys) p) (λ r. Any-tail x (xs ++ ys) (Any-left xs ys r)) (Any-cases x xs a)

  pub Any-right : (xs ys : List X) → Any P ys → Any P (xs ++ ys)
  Any-right [] ys a = a
  Any-right (x ∷ xs) ys a = Any-tail x (xs ++ ys) (Any-right xs ys a)

  pub Any-append_cases : (xs ys : List X) → Any P (xs ++ ys) → Any P xs ⊎ Any P ys
  Any-append_cases [] ys a = inr a
  Any-append_cases (x ∷ xs) ys a = ⊎_elim (λ p. inl (Any-head x xs p)) (λ r. ⊎_elim (λ l. inl (Any-tail x xs l)) (λ q. inr q) (Any-append_cases xs ys r)) (Any-cases x (xs ++ ys) a)

pub Any-weaker : {X : Type 0} (P Q : X → Type 0) → ((x : X) → P x → Q x) → (xs : List X) → Any P xs → Any Q xs
Any-weaker P Q weaker xs (k, x, within, is, p) = (k, x, within, is, weaker x p)

pub Any-Contains : {X : Type 0} (xs : List X) (x : X) → Any (λ y. y ≡ x) xs → Contains xs x
Any-Contains xs x (k, y, within, is, e) = (k, within, subst (λ z. get_or xs k z ≡ z) e is)

pub Contains-Any : {X : Type 0} (xs : List X) (x : X) → Contains xs x → Any (λ y. y ≡ x) xs
Contains-Any xs x (k, within, is) = (k, x, within, is, refl)

-- one turn of a loop that looks for an element, seen by v, with P
module _ {A C : Type 0} (v : C → A) (P : A → Type 0) where
  pub some_here : (xs : List C) (i : ℕ) (x : C) → i < length xs → get_or xs i x ≡ x → P (v x) → Any P (map v xs)
  some_here [] i x within is p = absurd (omega arith)
  some_here (y ∷ xs) zero x within is p = Any-head P (v y) (map v xs) (subst (λ z. P (v z)) (sym is) p)
  some_here (y ∷ xs) (suc i) x within is p = Any-tail P (v y) (map v xs) (some_here xs i x (omega arith) is p)

  pub none_more : (xs : List C) (i : ℕ) (x : C) → i < length xs → get_or xs i x ≡ x → (Any P (map v (take i xs)) → ⊥) → (P (v x) → ⊥) → Any P (map v (take (i + 1) xs)) → ⊥
  none_more [] i x within is none here a = absurd (omega arith)
  none_more (y ∷ xs) zero x within is none here a = ⊎_elim (λ p. here (subst (λ z. P (v z)) is p)) (λ r. Any-nil P r) (Any-cases P (v y) [] a)
  none_more (y ∷ xs) (suc i) x within is none here a =
      let next : suc i + 1 ≡ suc (i + 1) = omega arith in
      ⊎_elim (λ p. none (Any-head P (v y) (map v (take i xs)) p)) (λ r. none_more xs i x (omega arith) is (λ s. none (Any-tail P (v y) (map v (take i xs)) s)) here r) (Any-cases P (v y) (map v (take (i + 1) xs)) (subst (λ n. Any P (map v (take n (y ∷ xs)))) next a))

  pub none_done : (xs : List C) (i : ℕ) → length xs ≤ i → (Any P (map v (take i xs)) → ⊥) → Any P (map v xs) → ⊥
  none_done xs i past none a = let whole : take i xs ≡ xs = grind (arith, common_steps) in none (subst (λ l. Any P (map v l)) (sym whole) a)

-- the elements that h finds in a list
module _ {X Y : Type 0} (h : X → Option Y) (P : Y → Type 0) where
  pub picked : (xs : List X) → Any (λ x. IsSomeAnd (h x) P) xs → Any P (filter_map h xs)
  picked [] a = absurd (Any-nil (λ x. IsSomeAnd (h x) P) a)
  picked (x ∷ xs) a = ⊎_elim (λ p. here (h x) p) (λ r. past (h x) (picked xs r)) (Any-cases (λ x. IsSomeAnd (h x) P) x xs a)
    where
      here : (o : Option Y) → IsSomeAnd o P → Any P (cons_option o (filter_map h xs))
      here None p = absurd p
      here (Some y) p = Any-head P y (filter_map h xs) p

      past : (o : Option Y) → Any P (filter_map h xs) → Any P (cons_option o (filter_map h xs))
      past None r = r
      past (Some y) r = Any-tail P y (filter_map h xs) r

  pub unpicked : (xs : List X) → Any P (filter_map h xs) → Any (λ x. IsSomeAnd (h x) P) xs
  unpicked [] a = absurd (Any-nil P a)
  unpicked (x ∷ xs) a = by (h x) refl (λ r. unpicked xs r) a
    where
      by : (o : Option Y) → h x ≡ o → (Any P (filter_map h xs) → Any (λ x. IsSomeAnd (h x) P) xs) → Any P (cons_option o (filter_map h xs)) → Any (λ x. IsSomeAnd (h x) P) (x ∷ xs)
      by None e go r = Any-tail (λ x. IsSomeAnd (h x) P) x xs (go r)
      by (Some y) e go r = ⊎_elim (λ p. Any-head (λ x. IsSomeAnd (h x) P) x xs (subst (λ o. IsSomeAnd o P) (sym e) p)) (λ s. Any-tail (λ x. IsSomeAnd (h x) P) x xs (go s)) (Any-cases P y (filter_map h xs) r)

-- the elements that pass a test
module _ {X : Type 0} (test : X → Bool) where
  pub kept : (P : X → Type 0) (xs : List X) → Any (λ x. (test x ≡ true) × P x) xs → Any P (filter test xs)
  kept P [] a = absurd (Any-nil (λ x. (test x ≡ true) × P x) a)
  kept P (x ∷ xs) a = ⊎_elim (λ p. here (test x) p.0 p.1) (λ r. past (test x) (kept P xs r)) (Any-cases (λ x. (test x ≡ true) × P x) x xs a)
    where
      here : (b : Bool) → b ≡ true → P x → Any P (cond b (x ∷ filter test xs) (filter test xs))
      here true e p = Any-head P x (filter test xs) p
      here false e p = absurd (cc)

      past : (b : Bool) → Any P (filter test xs) → Any P (cond b (x ∷ filter test xs) (filter test xs))
      past true r = Any-tail P x (filter test xs) r
      past false r = r

  pub unkept : (P : X → Type 0) (xs : List X) → Any P (filter test xs) → Any (λ x. (test x ≡ true) × P x) xs
  unkept P [] a = absurd (Any-nil P a)
  unkept P (x ∷ xs) a = by (test x) refl (λ r. unkept P xs r) a
    where
      by : (b : Bool) → test x ≡ b → (Any P (filter test xs) → Any (λ x. (test x ≡ true) × P x) xs) → Any P (cond b (x ∷ filter test xs) (filter test xs)) → Any (λ x. (test x ≡ true) × P x) (x ∷ xs)
      by true e go r = ⊎_elim (λ p. Any-head (λ x. (test x ≡ true) × P x) x xs (e, p)) (λ s. Any-tail (λ x. (test x ≡ true) × P x) x xs (go s)) (Any-cases P x (filter test xs) r)
      by false e go r = Any-tail (λ x. (test x ≡ true) × P x) x xs (go r)

pub something : {X : Type 0} (xs : List X) → Any (λ _. Unit {0}) xs → xs ≢ []
something xs (k, x, within, is, p) none = let empty : length xs ≡ 0 = ap length none in absurd (omega arith)

pub some_of : {X : Type 0} (xs : List X) → xs ≢ [] → Any (λ _. Unit {0}) xs
some_of [] some = absurd (some refl)
some_of (x ∷ xs) some = Any-head (λ _. Unit {0}) x xs tt
