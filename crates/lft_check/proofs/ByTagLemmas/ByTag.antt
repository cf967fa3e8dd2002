-- The slices of the rows, one row after another.
use Rattle.std.proofs.Common.{◌≡◌, ℕ, ◌+◌, ◌<◌, ◌≤◌, ◌⊎◌, inl, inr, List, [], ◌∷◌, ◌++◌, length, refl, sym, ap, ◌∙◌, subst, arith, Some, slice_get}
use native.Mathlib.Decide.{ℕ_discrete, dec_lt}
use Rattle.lft_tag.{specs.{declared.Tag.Tag, Tags.{Before, UpTo}}, proofs.Order.{Before-irrefl, Before-UpTo, UpTo_antisym, order_cases}}
use Rattle.lft_lists.proofs.Places.{get_there, get_left, get_last, get_push_cases}
use Rattle.lft_rows.{proofs.PresenceLemmas.Presences.same_row, specs.{declared.slices.Slice.Slice, inner.Slices.{Rises, IsSlice}}}
use Rattle.lft_ir.specs.declared.steps.row.Row.{Row}
use Rattle.lft_model.proofs.Places.{slice_get_within, tag_discrete}
use Rattle.lft_check.specs.inner.ByTag.Slices.{AreSlices}

-- no row of the tag stands at the place
abbrev pub IsOther : List Row → ℕ → Tag → Type 0
IsOther t i g = (row : Row) → slice_get t i ≡ Some row → ¬ (row.tag ≡ g)

-- the slices of the rows before the first place; the rows from there up to place i are at one tag
pub record AreSlicesTo (t : List Row) (first i : ℕ) (slices : List Slice) : Type 0 where
  pub ascending : (j k : ℕ) (x y : Slice) → j < k → slice_get slices j ≡ Some x → slice_get slices k ≡ Some y → Before x.tag y.tag
  pub is_slice : (k : ℕ) (x : Slice) → slice_get slices k ≡ Some x → IsSlice t x
  pub each : (j : ℕ) (row : Row) → j < first → slice_get t j ≡ Some row → (k : ℕ) × (x : Slice) × (slice_get slices k ≡ Some x) × (row.tag ≡ x.tag)
  pub apart : (k : ℕ) (x : Slice) (row : Row) → slice_get slices k ≡ Some x → slice_get t first ≡ Some row → Before x.tag row.tag
  pub same : (j : ℕ) (x y : Row) → first ≤ j → j ≤ i → slice_get t j ≡ Some x → slice_get t first ≡ Some y → x.tag ≡ y.tag
  pub within : first ≤ i
  pub at_end : i ≡ length t → first ≡ i

module _ (t : List Row) (rises : Rises t) (first i : ℕ) (slices : List Slice) (so_far : AreSlicesTo t first i slices) (row : Row) (is_row : slice_get t i ≡ Some row) where
  -- the next row is at the tag too
  pub slices_stay : ¬ IsOther t (i + 1) row.tag → AreSlicesTo t first (i + 1) slices
  slices_stay n = record { ascending = so_far.ascending; is_slice = so_far.is_slice; each = so_far.each; apart = so_far.apart; same = same; within = let w : first ≤ i = so_far.within in omega arith; at_end = λ e. absurd (n (λ x p q. let l : i + 1 < length t = slice_get_within t (i + 1) x p in omega arith)) }
    where
      same : (j : ℕ) (x y : Row) → first ≤ j → j ≤ i + 1 → slice_get t j ≡ Some x → slice_get t first ≡ Some y → x.tag ≡ y.tag
      same j x y l m p q = go (ℕ_discrete j (i + 1)) (tag_discrete x.tag row.tag)
        where
          here : row.tag ≡ y.tag
          here = so_far.same i row y so_far.within (omega arith) is_row q

          go : Dec (j ≡ i + 1) → Dec (x.tag ≡ row.tag) → x.tag ≡ y.tag
          go (no d) r = let k : j ≤ i = omega arith in so_far.same j x y l k p q
          go (yes e) (yes r) = r ∙ here
          go (yes e) (no r) = absurd (n (λ z w u. r (ap (λ (v : Row). v.tag) (same_row t j (i + 1) x z e p w) ∙ u)))

  module _ (other : IsOther t (i + 1) row.tag) where
    slice : Slice
    slice = record { tag = row.tag; first = first; end = i + 1 }

    begin : (y : Row) × (slice_get t first ≡ Some y)
    begin = let w : first ≤ i = so_far.within in let l : i < length t = slice_get_within t i row is_row in let m : first < length t = omega arith in get_there t first m

    begin_tag : begin.0.tag ≡ row.tag
    begin_tag = sym (so_far.same i row begin.0 so_far.within (omega arith) is_row begin.1)

    at_tag : (j : ℕ) (x : Row) → slice_get t j ≡ Some x → first ≤ j → j < i + 1 → x.tag ≡ row.tag
    at_tag j x e l m = let k : j ≤ i = omega arith in so_far.same j x begin.0 l k e begin.1 ∙ begin_tag

    -- each row after this one is at a later tag
    after_next : (n : Row) → slice_get t (i + 1) ≡ Some n → Before row.tag n.tag
    after_next n e = go (order_cases row.tag n.tag)
      where
        go : Before row.tag n.tag ⊎ UpTo n.tag row.tag → Before row.tag n.tag
        go (inl b) = b
        go (inr u) = let l : i < i + 1 = omega arith in absurd (other n e (UpTo_antisym n.tag row.tag u (rises i (i + 1) row n l is_row e)))

    after_row : (j : ℕ) (x : Row) → i < j → slice_get t j ≡ Some x → Before row.tag x.tag
    after_row j x l e = go (ℕ_discrete j (i + 1))
      where
        go : Dec (j ≡ i + 1) → Before row.tag x.tag
        go (yes q) = after_next x (ap (λ k. slice_get t k) (sym q) ∙ e)
        go (no n) = let m : i + 1 < j = omega arith in let k : j < length t = slice_get_within t j x e in let b : i + 1 < length t = omega arith in let y : (y : Row) × (slice_get t (i + 1) ≡ Some y) = get_there t (i + 1) b in Before-UpTo row.tag y.0.tag x.tag (after_next y.0 y.1) (rises (i + 1) j y.0 x m y.1 e)

    is_slice : IsSlice t slice
    unfolding slice
    is_slice = record { some = let w : first ≤ i = so_far.within in omega arith; within = let l : i < length t = slice_get_within t i row is_row in omega arith; at_tag = at_tag; all = λ j x e q. all j x e q (dec_lt j first) (dec_lt i j) }
      where
        all : (j : ℕ) (x : Row) → slice_get t j ≡ Some x → x.tag ≡ row.tag → Dec (j < first) → Dec (i < j) → (first ≤ j) × (j < i + 1)
        all j x e q (yes l) d = let k = so_far.each j x l e in let b : Before k.1.tag begin.0.tag = so_far.apart k.0 k.1 begin.0 k.2 begin.1 in absurd (Before-irrefl row.tag (subst (λ (z : Tag). Before z row.tag) (sym k.3 ∙ q) (subst (λ (z : Tag). Before k.1.tag z) begin_tag b)))
        all j x e q (no n) (yes l) = absurd (Before-irrefl row.tag (subst (λ (z : Tag). Before row.tag z) q (after_row j x l e)))
        all j x e q (no n) (no m) = (omega arith, omega arith)

    -- the next row is at another tag, or there is none
    pub slices_more : AreSlicesTo t (i + 1) (i + 1) (slices ++ record { tag = row.tag; first = first; end = i + 1 } ∷ [])
    unfolding slice
    slices_more = record { ascending = ascending; is_slice = λ k x e. each_slice k x (get_push_cases slices slice k x e); each = λ j x l e. each j x l e (dec_lt j first); apart = λ k x n e p. apart k x n p (get_push_cases slices slice k x e); same = λ j x y l m p q. ap (λ (z : Row). z.tag) (same_row t j (i + 1) x y (omega arith) p q); within = omega arith; at_end = λ e. refl }
      where
        old_before : (k : ℕ) (x : Slice) → slice_get slices k ≡ Some x → Before x.tag row.tag
        old_before k x e = subst (λ (z : Tag). Before x.tag z) begin_tag (so_far.apart k x begin.0 e begin.1)

        ascending : (j k : ℕ) (x y : Slice) → j < k → slice_get (slices ++ slice ∷ []) j ≡ Some x → slice_get (slices ++ slice ∷ []) k ≡ Some y → Before x.tag y.tag
        ascending j k x y l p q = go (get_push_cases slices slice j x p) (get_push_cases slices slice k y q)
          where
            go : (slice_get slices j ≡ Some x) ⊎ ((j ≡ length slices) × (slice ≡ x)) → (slice_get slices k ≡ Some y) ⊎ ((k ≡ length slices) × (slice ≡ y)) → Before x.tag y.tag
            go (inl a) (inl b) = so_far.ascending j k x y l a b
            go (inl a) (inr b) = subst (λ (z : Slice). Before x.tag z.tag) b.1 (old_before j x a)
            go (inr a) (inl b) = let m : k < length slices = slice_get_within slices k y b in let e : j ≡ length slices = a.0 in absurd (omega arith)
            go (inr a) (inr b) = let e : j ≡ length slices = a.0 in let f : k ≡ length slices = b.0 in absurd (omega arith)

        each_slice : (k : ℕ) (x : Slice) → (slice_get slices k ≡ Some x) ⊎ ((k ≡ length slices) × (slice ≡ x)) → IsSlice t x
        each_slice k x (inl a) = so_far.is_slice k x a
        each_slice k x (inr a) = subst (λ (z : Slice). IsSlice t z) a.1 is_slice

        each : (j : ℕ) (x : Row) → j < i + 1 → slice_get t j ≡ Some x → Dec (j < first) → (k : ℕ) × (y : Slice) × (slice_get (slices ++ slice ∷ []) k ≡ Some y) × (x.tag ≡ y.tag)
        each j x l e (yes m) = let k = so_far.each j x m e in (k.0, k.1, get_left slices (slice ∷ []) k.0 k.1 k.2, k.3)
        each j x l e (no n) = (length slices, slice, get_last slices slice, at_tag j x e (omega arith) l)

        apart : (k : ℕ) (x : Slice) (n : Row) → slice_get t (i + 1) ≡ Some n → (slice_get slices k ≡ Some x) ⊎ ((k ≡ length slices) × (slice ≡ x)) → Before x.tag n.tag
        apart k x n p (inl a) = let l : i < i + 1 = omega arith in Before-UpTo x.tag row.tag n.tag (old_before k x a) (rises i (i + 1) row n l is_row p)
        apart k x n p (inr a) = subst (λ (z : Slice). Before z.tag n.tag) a.1 (after_next n p)

pub slices_end : (t : List Row) (first i : ℕ) (slices : List Slice) → i ≡ length t → AreSlicesTo t first i slices → AreSlices t slices
slices_end t first i slices e h = record { ascending = h.ascending; is_slice = h.is_slice; each = λ j row p. let l : j < length t = slice_get_within t j row p in let f : first ≡ i = h.at_end e in let m : j < first = omega arith in h.each j row m p }
