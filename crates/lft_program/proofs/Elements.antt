-- Elements of joined lists, and of pairs.
use Rattle.std.proofs.Common.{◌≡◌, ℕ, zero, suc, ◌+◌, ◌⊎◌, inl, inr, List, [], ◌∷◌, length, refl, ap, arith, Some, slice_get, flat_map}
use Rattle.std.specs.List.{zip}
use Rattle.lft_lists.proofs.Places.{get_append_cases}
use Rattle.lft_program.proofs.Counting.{total}

-- from which element, and from which of its pieces, a piece comes
pub record From {X Y : Type 0} (f : X → List Y) (xs : List X) (p : ℕ) (y : Y) : Type 0 where
  pub number : ℕ
  pub element : X
  pub place : ℕ
  pub is_element : slice_get xs number ≡ Some element
  pub is_piece : slice_get (f element) place ≡ Some y
  pub is_at : p ≡ total f number xs + place

pub flat_back : {X Y : Type 0} (f : X → List Y) (xs : List X) (p : ℕ) (y : Y) → slice_get (flat_map f xs) p ≡ Some y → From f xs p y
flat_back f [] p y e = absurd (cc)
flat_back {X} {Y} f (x ∷ xs) p y e = by (get_append_cases (f x) (flat_map f xs) p y e) (λ j g. flat_back f xs j y g)
  where
    by : (slice_get (f x) p ≡ Some y) ⊎ ((j : ℕ) × (p ≡ length (f x) + j) × (slice_get (flat_map f xs) j ≡ Some y)) → ((j : ℕ) → slice_get (flat_map f xs) j ≡ Some y → From f xs j y) → From f (x ∷ xs) p y
    by (inl a) more = record { number = 0; element = x; place = p; is_element = refl; is_piece = a; is_at = omega arith }
    by (inr b) more =
        let r = more b.0 b.2 in
        let q : p ≡ length (f x) + b.0 = b.1 in
        let s : b.0 ≡ total f r.number xs + r.place = r.is_at in
        let t : total f (suc r.number) (x ∷ xs) ≡ length (f x) + total f r.number xs = refl in
        record { number = suc r.number; element = r.element; place = r.place; is_element = r.is_element; is_piece = r.is_piece; is_at = omega arith }

pub pair_back : {X Y : Type 0} (xs : List X) (ys : List Y) (k : ℕ) (p : X × Y) → slice_get (zip xs ys) k ≡ Some p → (slice_get xs k ≡ Some p.0) × (slice_get ys k ≡ Some p.1)
pair_back [] ys k p e = absurd (cc)
pair_back (x ∷ xs) [] k p e = absurd (cc)
pair_back (x ∷ xs) (y ∷ ys) zero p e = let q : (x, y) ≡ p = cc in (ap (λ w. Some w.0) q, ap (λ w. Some w.1) q)
pair_back (x ∷ xs) (y ∷ ys) (suc k) p e = pair_back xs ys k p e
