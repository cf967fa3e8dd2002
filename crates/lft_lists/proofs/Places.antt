-- What stands at the places of lists.
use Rattle.std.proofs.Common.{◌≡◌, ◌≢◌, ℕ, zero, suc, ◌+◌, ◌<◌, ◌⊎◌, inl, inr, List, [], ◌∷◌, ◌++◌, length, refl, sym, ap, ◌∙◌, subst, arith, Some, slice_get, slice_set, Contains, replicate, take, length-append, Option}
use Rattle.std.proofs.lemmas.{Option.slice_get-get_or, Bool.cases_eq}

pub contains_at : {X : Type 0} (xs : List X) (i : ℕ) (x : X) → slice_get xs i ≡ Some x → Contains xs x
contains_at [] i x e = absurd (cc)
contains_at (y ∷ ys) zero x e = let q : y ≡ x = cc in (0, omega arith, q)
contains_at (y ∷ ys) (suc i) x e = let c = contains_at ys i x e in let l : c.0 < length ys = c.1 in (suc c.0, omega arith, c.2)

pub at_contains : {X : Type 0} (xs : List X) (x : X) → Contains xs x → (i : ℕ) × (slice_get xs i ≡ Some x)
at_contains xs x c = (c.0, slice_get-get_or xs c.0 x c.1 ∙ ap Some c.2)

pub get_there : {X : Type 0} (xs : List X) (k : ℕ) → k < length xs → (x : X) × (slice_get xs k ≡ Some x)
get_there [] k l = absurd (omega arith)
get_there (y ∷ ys) zero l = (y, refl)
get_there (y ∷ ys) (suc k) l = get_there ys k (omega arith)

pub same_at : {X : Type 0} (xs : List X) (i j : ℕ) (x y : X) → slice_get xs i ≡ Some x → slice_get xs j ≡ Some y → i ≡ j → x ≡ y
same_at xs i j x y e f g = let a : slice_get xs i ≡ slice_get xs j = ap (slice_get xs) g in let b : Some x ≡ Some y = sym e ∙ a ∙ f in cc

-- a write at a place
pub get_written : {X : Type 0} (xs : List X) (i : ℕ) (y : X) → i < length xs → slice_get (slice_set xs i y) i ≡ Some y
get_written [] i y l = absurd (omega arith)
get_written (x ∷ xs) zero y l = refl
get_written (x ∷ xs) (suc i) y l = get_written xs i y (omega arith)

pub get_unwritten : {X : Type 0} (xs : List X) (i j : ℕ) (y : X) → j ≢ i → slice_get (slice_set xs i y) j ≡ slice_get xs j
get_unwritten [] i j y n = refl
get_unwritten (x ∷ xs) zero zero y n = absurd (n refl)
get_unwritten (x ∷ xs) zero (suc j) y n = refl
get_unwritten (x ∷ xs) (suc i) zero y n = refl
get_unwritten (x ∷ xs) (suc i) (suc j) y n = get_unwritten xs i j y (λ e. n (ap suc e))

pub get_write_cases : {X : Type 0} (xs : List X) (i j : ℕ) (y z : X) → i < length xs → slice_get (slice_set xs i y) j ≡ Some z → ((j ≡ i) × (y ≡ z)) ⊎ ((j ≢ i) × (slice_get xs j ≡ Some z))
get_write_cases {X} xs i j y z l e = go (cases_eq j i)
  where
    go : (j ≡ i) ⊎ (j ≡ i → ⊥) → ((j ≡ i) × (y ≡ z)) ⊎ ((j ≢ i) × (slice_get xs j ≡ Some z))
    go (inl s) = let a : slice_get (slice_set xs i y) i ≡ Some z = subst (λ k. slice_get (slice_set xs i y) k ≡ Some z) s e in let b = get_written xs i y l in let q : y ≡ z = cc in inl (s, q)
    go (inr n) = inr (n, sym (get_unwritten xs i j y n) ∙ e)

pub length_written : {X : Type 0} (xs : List X) (i : ℕ) (y : X) → length (slice_set xs i y) ≡ length xs
length_written [] i y = refl
length_written (x ∷ xs) zero y = refl
length_written (x ∷ xs) (suc i) y = ap suc (length_written xs i y)

-- one more at the end
pub get_push : {X : Type 0} (xs : List X) (y : X) (i : ℕ) (x : X) → slice_get xs i ≡ Some x → slice_get (xs ++ y ∷ []) i ≡ Some x
get_push [] y i x e = absurd (cc)
get_push (z ∷ xs) y zero x e = e
get_push (z ∷ xs) y (suc i) x e = get_push xs y i x e

pub get_last : {X : Type 0} (xs : List X) (y : X) → slice_get (xs ++ y ∷ []) (length xs) ≡ Some y
get_last [] y = refl
get_last (z ∷ xs) y = get_last xs y

pub get_push_cases : {X : Type 0} (xs : List X) (y : X) (i : ℕ) (x : X) → slice_get (xs ++ y ∷ []) i ≡ Some x → (slice_get xs i ≡ Some x) ⊎ ((i ≡ length xs) × (y ≡ x))
get_push_cases [] y zero x e = let q : y ≡ x = cc in inr (refl, q)
get_push_cases [] y (suc i) x e = absurd (cc)
get_push_cases (z ∷ xs) y zero x e = inl e
get_push_cases {X} (z ∷ xs) y (suc i) x e = up (get_push_cases xs y i x e)
  where
    up : (slice_get xs i ≡ Some x) ⊎ ((i ≡ length xs) × (y ≡ x)) → (slice_get xs i ≡ Some x) ⊎ ((suc i ≡ suc (length xs)) × (y ≡ x))
    up (inl a) = inl a
    up (inr b) = inr (ap suc b.0, b.1)

pub get_same : {X : Type 0} (n i : ℕ) (y x : X) → slice_get (replicate n y) i ≡ Some x → x ≡ y
get_same zero i y x e = absurd (cc)
get_same (suc n) zero y x e = let q : y ≡ x = cc in sym q
get_same (suc n) (suc i) y x e = get_same n i y x e

pub length_same : {X : Type 0} (n : ℕ) (y : X) → length (replicate n y) ≡ n
length_same zero y = refl
length_same (suc n) y = ap suc (length_same n y)

pub written_back : {X : Type 0} (xs ys : List X) (n : ℕ) → n ≡ length xs → take n (xs ++ ys) ≡ xs
written_back {X} xs ys n e = ap (λ k. take k (xs ++ ys)) e ∙ go xs
  where
    go : (xs : List X) → take (length xs) (xs ++ ys) ≡ xs
    go [] = refl
    go (x ∷ xs) = ap (λ l. x ∷ l) (go xs)

-- one list behind another
pub get_left : {X : Type 0} (xs ys : List X) (k : ℕ) (x : X) → slice_get xs k ≡ Some x → slice_get (xs ++ ys) k ≡ Some x
get_left [] ys k x e = absurd (cc)
get_left (y ∷ xs) ys zero x e = e
get_left (y ∷ xs) ys (suc k) x e = get_left xs ys k x e

pub get_right : {X : Type 0} (xs ys : List X) (k : ℕ) → slice_get (xs ++ ys) (length xs + k) ≡ slice_get ys k
get_right [] ys k = let e : 0 + k ≡ k = omega arith in ap (slice_get ys) e
get_right (x ∷ xs) ys k = let e : suc (length xs) + k ≡ suc (length xs + k) = omega arith in ap (slice_get ((x ∷ xs) ++ ys)) e ∙ get_right xs ys k

pub get_append_cases : {X : Type 0} (xs ys : List X) (k : ℕ) (x : X) → slice_get (xs ++ ys) k ≡ Some x → (slice_get xs k ≡ Some x) ⊎ ((j : ℕ) × (k ≡ length xs + j) × (slice_get ys j ≡ Some x))
get_append_cases [] ys k x e = inr (k, omega arith, e)
get_append_cases (z ∷ xs) ys zero x e = inl e
get_append_cases {X} (z ∷ xs) ys (suc k) x e = up (get_append_cases xs ys k x e)
  where
    up : (slice_get xs k ≡ Some x) ⊎ ((j : ℕ) × (k ≡ length xs + j) × (slice_get ys j ≡ Some x)) → (slice_get xs k ≡ Some x) ⊎ ((j : ℕ) × (suc k ≡ suc (length xs) + j) × (slice_get ys j ≡ Some x))
    up (inl a) = inl a
    up (inr b) = inr (b.0, (let q : k ≡ length xs + b.0 = b.1 in omega arith), b.2)

-- a list with one more at its end is of one list and one element
pub push_apart : (p q : List ℕ) (j k : ℕ) → p ++ j ∷ [] ≡ q ++ k ∷ [] → (p ≡ q) × (j ≡ k)
push_apart [] [] j k e = (refl, (cc))
push_apart [] (y ∷ q) j k e = absurd (let l : length (j ∷ []) ≡ length ((y ∷ q) ++ k ∷ []) = ap length e in let s = length-append q (k ∷ []) in omega arith)
push_apart (x ∷ p) [] j k e = absurd (let l : length ((x ∷ p) ++ j ∷ []) ≡ length (k ∷ []) = ap length e in let s = length-append p (j ∷ []) in omega arith)
push_apart (x ∷ p) (y ∷ q) j k e = let f : p ++ j ∷ [] ≡ q ++ k ∷ [] = cc in let h : x ≡ y = cc in let r = push_apart p q j k f in let t : p ≡ q = r.0 in ((cc), r.1)

-- what is there is one thing
pub same_some : {X : Type 0} (o : Option X) (x y : X) → o ≡ Some x → o ≡ Some y → x ≡ y
same_some o x y a b = cc

pub Some_same : {X : Type 0} (x y : X) → Some x ≡ Some y → x ≡ y
Some_same x y same = cc

-- lists of one length with the same items
pub same_items : {X : Type 0} (xs ys : List X) → length xs ≡ length ys → ((k : ℕ) (x y : X) → slice_get xs k ≡ Some x → slice_get ys k ≡ Some y → x ≡ y) → xs ≡ ys
same_items [] [] l e = refl
same_items [] (y ∷ ys) l e = absurd (omega arith)
same_items (x ∷ xs) [] l e = absurd (omega arith)
same_items (x ∷ xs) (y ∷ ys) l e = let p : x ≡ y = e 0 x y refl refl in let q : xs ≡ ys = same_items xs ys (omega arith) (λ k a b f g. e (suc k) a b f g) in cc
