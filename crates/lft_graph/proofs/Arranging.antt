-- The order of levels and numbers.
use Rattle.std.proofs.Common.{◌≡◌, ◌≢◌, ℕ, zero, suc, ◌<◌, ◌⊎◌, inl, inr, List, [], ◌∷◌, length, refl, sym, ap, ◌∙◌, subst, arith, Some, slice_get, slice_index_or, Contains, false, eqb, map, AllPairs}
use Rattle.std.specs.{List.Sorted.{IsPermutation, IsSorted}, Ordering.{nat_cmp, ordering_then, is_lt}, Cmp.IsTotalOrder}
use Rattle.std.proofs.lemmas.Cmp.{nat_cmp_total, then_total, on_total}
use Rattle.std.proofs.lemmas.List.Sorted.{IsPermutation-sym, IsPermutation-map, Contains-permutation, sorted_far, ranks_by}
use Rattle.std.proofs.lemmas.Map.{Made.{AllPairs-from_IsDistinct, IsDistinct-from_AllPairs}, Keys.IsDistinct-IsPermutation}
use Rattle.std.proofs.lemmas.{Bool.Decides.{Decides-eqb, nat_tests}, Option.{slice_get_within, get_or_from_slice_get}}
use Rattle.lft_graph.specs.Graph.{AreByLevel}
use Rattle.lft_lists.proofs.Places.{contains_at, at_contains, get_there, same_at}

-- the order of the pairs: by level, then by number
pair_cmp_total : IsTotalOrder (λ (x : ℕ × ℕ) y. ordering_then (nat_cmp x.0 y.0) (nat_cmp x.1 y.1))
pair_cmp_total = then_total (on_total (λ (x : ℕ × ℕ). x.0) nat_cmp_total) (on_total (λ (x : ℕ × ℕ). x.1) nat_cmp_total)

-- each level below a number with its number
pub record Paired (levels : List ℕ) (pairs : List (ℕ × ℕ)) (number : ℕ) : Type 0 where
  pub as_long : length pairs ≡ number
  pub each : (i : ℕ) (x : ℕ × ℕ) → slice_get pairs i ≡ Some x → (x.1 ≡ i) × (slice_get levels i ≡ Some x.0)

-- the numbers of the pairs so far
pub record Arranged (pairs : List (ℕ × ℕ)) (order : List ℕ) (place : ℕ) : Type 0 where
  pub as_long : length order ≡ place
  pub each : (j a : ℕ) → slice_get order j ≡ Some a → (x : ℕ × ℕ) × (slice_get pairs j ≡ Some x) × (x.1 ≡ a)

-- what the order of pairs says
not_less : (k a l b : ℕ) → is_lt (ordering_then (nat_cmp l k) (nat_cmp b a)) ≡ false → a ≢ b → (k < l) ⊎ ((k ≡ l) × (a < b))
not_less k a l b e n = grind (arith, nat_tests)

module _ (levels : List ℕ) (pairs sorted : List (ℕ × ℕ)) (order : List ℕ) (paired : Paired levels pairs (length levels)) (moved : IsPermutation pairs sorted) (up : IsSorted (λ (x : ℕ × ℕ) y. ordering_then (nat_cmp x.0 y.0) (nat_cmp x.1 y.1)) sorted) (arranged : Arranged sorted order (length sorted)) where
  -- a pair is that of its number
  known : (j : ℕ) (x : ℕ × ℕ) → slice_get sorted j ≡ Some x → slice_get levels x.1 ≡ Some x.0
  known j x e =
      let c = at_contains pairs x (Contains-permutation sorted pairs x (IsPermutation-sym pairs sorted moved) (contains_at sorted j x e)) in
      let p = paired.each c.0 x c.1 in
      ap (slice_get levels) p.0 ∙ p.1

  to : (r : ℕ) → Contains order r → r < length levels
  to r c =
      let g = at_contains order r c in
      let x = arranged.each g.0 r g.1 in
      slice_get_within levels r x.0.0 (ap (slice_get levels) (sym x.2) ∙ known g.0 x.0 x.1)

  from : (r : ℕ) → r < length levels → Contains order r
  from r l =
      let x = get_there pairs r (let s = paired.as_long in omega arith) in
      let p = paired.each r x.0 x.1 in
      let c = at_contains sorted x.0 (Contains-permutation pairs sorted x.0 moved (contains_at pairs r x.0 x.1)) in
      let m = slice_get_within sorted c.0 x.0 c.1 in
      let g = get_there order c.0 (let s = arranged.as_long in omega arith) in
      let y = arranged.each c.0 g.0 g.1 in
      let q : y.0 ≡ x.0 = same_at sorted c.0 c.0 y.0 x.0 y.1 c.1 refl in
      let e : g.0 ≡ r = sym y.2 ∙ ap (λ (z : ℕ × ℕ). z.1) q ∙ p.0 in
      contains_at order c.0 r (g.1 ∙ ap Some e)

  number_at : (l : List (ℕ × ℕ)) (j : ℕ) (x : ℕ × ℕ) → slice_get l j ≡ Some x → slice_get (map (λ (x : ℕ × ℕ). x.1) l) j ≡ Some x.1
  number_at [] j x e = absurd (cc)
  number_at (y ∷ l) zero x e = let q : y ≡ x = cc in ap (λ (z : ℕ × ℕ). Some z.1) q
  number_at (y ∷ l) (suc j) x e = number_at l j x e

  length_numbers : (l : List (ℕ × ℕ)) → length (map (λ (x : ℕ × ℕ). x.1) l) ≡ length l
  length_numbers [] = refl
  length_numbers (x ∷ l) = ap suc (length_numbers l)

  -- the numbers of the pairs are their places
  is_place : (i d : ℕ) → i < length pairs → slice_index_or (map (λ (x : ℕ × ℕ). x.1) pairs) i d ≡ i
  is_place i d l =
      let x = get_there pairs i l in
      get_or_from_slice_get (map (λ (x : ℕ × ℕ). x.1) pairs) i x.0.1 d (number_at pairs i x.0 x.1) ∙ (paired.each i x.0 x.1).0

  pairs_differ : AllPairs (λ x y. x ≢ y) (map (λ (x : ℕ × ℕ). x.1) pairs)
  pairs_differ i j d l m e =
      let s = length_numbers pairs in
      let a = is_place i d (omega arith) in
      let b = is_place j d (omega arith) in
      let q : i ≡ j = sym a ∙ e ∙ b in
      omega arith

  flips : (x y : ℕ) → eqb x y ≡ eqb y x
  flips x y = grind (arith, nat_tests)

  sorted_differ : AllPairs (λ x y. x ≢ y) (map (λ (x : ℕ × ℕ). x.1) sorted)
  sorted_differ = AllPairs-from_IsDistinct Decides-eqb (map (λ (x : ℕ × ℕ). x.1) sorted) (IsDistinct-IsPermutation eqb flips (map (λ (x : ℕ × ℕ). x.1) pairs) (map (λ (x : ℕ × ℕ). x.1) sorted) (IsPermutation-map (λ (x : ℕ × ℕ). x.1) pairs sorted moved) (IsDistinct-from_AllPairs Decides-eqb (map (λ (x : ℕ × ℕ). x.1) pairs) pairs_differ))

  differ : (i j : ℕ) (x y : ℕ × ℕ) → i < j → slice_get sorted i ≡ Some x → slice_get sorted j ≡ Some y → x.1 ≢ y.1
  differ i j x y l e f q =
      let s = length_numbers sorted in
      let m = slice_get_within sorted j y f in
      sorted_differ i j 0 l (omega arith) (get_or_from_slice_get (map (λ (x : ℕ × ℕ). x.1) sorted) i x.1 0 (number_at sorted i x e) ∙ q ∙ sym (get_or_from_slice_get (map (λ (x : ℕ × ℕ). x.1) sorted) j y.1 0 (number_at sorted j y f)))

  in_order : (i j : ℕ) (x y : ℕ × ℕ) → i < j → slice_get sorted i ≡ Some x → slice_get sorted j ≡ Some y → (x.0 < y.0) ⊎ ((x.0 ≡ y.0) × (x.1 < y.1))
  in_order i j x y l e f =
      let far = sorted_far (λ (x : ℕ × ℕ) y. is_lt (ordering_then (nat_cmp x.0 y.0) (nat_cmp x.1 y.1))) (ranks_by pair_cmp_total (λ (x : ℕ × ℕ). x)) sorted up i j x (omega arith) (slice_get_within sorted j y f) in
      let a = get_or_from_slice_get sorted i x x e in
      let b = get_or_from_slice_get sorted j y x f in
      not_less x.0 x.1 y.0 y.1 (subst (λ (v : ℕ × ℕ). is_lt (ordering_then (nat_cmp y.0 v.0) (nat_cmp y.1 v.1)) ≡ false) a (subst (λ (u : ℕ × ℕ). is_lt (ordering_then (nat_cmp u.0 (slice_index_or sorted i x).0) (nat_cmp u.1 (slice_index_or sorted i x).1)) ≡ false) b far)) (differ i j x y l e f)

  pub are_by_level : AreByLevel levels order
  are_by_level = record { all = λ r. (to r, from r); ordered = ordered }
    where
      ordered : (i j a b k l : ℕ) → i < j → slice_get order i ≡ Some a → slice_get order j ≡ Some b → slice_get levels a ≡ Some k → slice_get levels b ≡ Some l → (k < l) ⊎ ((k ≡ l) × (a < b))
      ordered i j a b k l p e f g h =
          let x = arranged.each i a e in
          let y = arranged.each j b f in
          let u : slice_get levels a ≡ Some x.0.0 = ap (slice_get levels) (sym x.2) ∙ known i x.0 x.1 in
          let v : slice_get levels b ≡ Some y.0.0 = ap (slice_get levels) (sym y.2) ∙ known j y.0 y.1 in
          let q : x.0.0 ≡ k = cc in
          let r : y.0.0 ≡ l = cc in
          let m = x.2 in
          let n = y.2 in
          elim (in_order i j x.0 y.0 p x.1 y.1) [ inl c ↦ inl (let d : x.0.0 < y.0.0 = c in omega arith) | inr c ↦ inr (sym q ∙ c.0 ∙ r, (let d : x.0.1 < y.0.1 = c.1 in omega arith)) ]
