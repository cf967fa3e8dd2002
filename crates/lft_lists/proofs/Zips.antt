-- Lists that are related item by item.
use Rattle.std.proofs.Common.{◌≡◌, ◌++◌, ℕ, zero, suc, List, [], ◌∷◌, length, Some, slice_get, refl, ap, arith, sym, ◌∙◌}
use Rattle.std.specs.List.{AllZip}

pub long : {A B : Type 0} (R : A → B → Type 0) (xs : List A) (ys : List B) → AllZip R xs ys → length xs ≡ length ys
long R [] [] h = refl
long R [] (y ∷ ys) h = absurd h
long R (x ∷ xs) [] h = absurd h
long R (x ∷ xs) (y ∷ ys) h = let e = long R xs ys h.1 in omega arith

-- one list is related to one other, where each item is
pub same : {A B : Type 0} (R : A → B → Type 0) → ((x : A) (y z : B) → R x y → R x z → y ≡ z) → (xs : List A) (ys zs : List B) → AllZip R xs ys → AllZip R xs zs → ys ≡ zs
same R one [] [] [] h k = refl
same R one [] [] (z ∷ zs) h k = absurd k
same R one [] (y ∷ ys) zs h k = absurd h
same R one (x ∷ xs) [] zs h k = absurd h
same R one (x ∷ xs) (y ∷ ys) [] h k = absurd k
same R one (x ∷ xs) (y ∷ ys) (z ∷ zs) h k = let a = one x y z h.0 k.0 in let b = same R one xs ys zs h.1 k.1 in λ i. a i ∷ b i

-- what an item of the second list is related to
pub behind : {A B : Type 0} (R : A → B → Type 0) (xs : List A) (ys : List B) (i : ℕ) (y : B) → AllZip R xs ys → slice_get ys i ≡ Some y → (x : A) × R x y
behind R [] [] i y h e = absurd (cc)
behind R [] (b ∷ ys) i y h e = absurd h
behind R (a ∷ xs) [] i y h e = absurd h
behind R (a ∷ xs) (b ∷ ys) zero y h e = let s : b ≡ y = cc in (a, rw s at h.0)
behind R (a ∷ xs) (b ∷ ys) (suc i) y h e = behind R xs ys i y h.1 e

-- what the parts of a list are related to
pub record Parted {A B : Type 0} (R : A → B → Type 0) (xs : List A) (x : A) (ys : List B) : Type 0 where
  pub front : List B
  pub here : B
  pub back : List B
  pub whole : ys ≡ front ++ (here ∷ back)
  pub each : AllZip R xs front
  pub is : R x here

pub parted : {A B : Type 0} (R : A → B → Type 0) (xs : List A) (x : A) (more : List A) (ys : List B) → AllZip R (xs ++ (x ∷ more)) ys → Parted R xs x ys
parted R [] x more [] h = absurd h
parted R [] x more (y ∷ ys) h = record { front = []; here = y; back = ys; whole = refl; each = tt; is = h.0 }
parted R (a ∷ xs) x more [] h = absurd h
parted {A} {B} R (a ∷ xs) x more (y ∷ ys) h =
    let p = parted R xs x more ys h.1 in
    record { front = y ∷ p.front; here = p.here; back = p.back; whole = ap (λ (l : List B). y ∷ l) p.whole; each = (h.0, p.each); is = p.is }

-- what stands behind one header
pub same_rest : {X : Type 0} (header : X) (records a b : List X) → records ≡ header ∷ a → records ≡ header ∷ b → a ≡ b
same_rest {X} header records a b h k = let e : ◌≡◌ {A = List X} (header ∷ a) (header ∷ b) = sym h ∙ k in cc e
