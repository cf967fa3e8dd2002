-- The open runs over one more row.
use Rattle.std.proofs.Common.{◌≡◌, ℕ, ◌+◌, ◌<◌, ◌≤◌, List, refl, sym, ap, ◌∙◌, arith, Option, Some, None, slice_get}
use native.Mathlib.Decide.{ℕ_discrete}
use Rattle.lft_tag.specs.declared.Tag.{Tag}
use Rattle.lft_ir.specs.declared.steps.row.Row.{Row}
use Rattle.lft_model.specs.{Runs.{start_row, end_row}, Breaches.IsOpen}
use Rattle.lft_rows.specs.inner.Passes.{Unended, OpenPlace}

pub weaken : (t : List Row) (i j w : ℕ) (g : Tag) (r : ℕ) → Unended t (i + 1) j w g r → Unended t i j w g r
weaken t i j w g r u = record { starts = u.starts; not_ended = λ k a b. let c : k < i + 1 = omega arith in u.not_ended k a c }

pub extend : (t : List Row) (i j w : ℕ) (g : Tag) (r : ℕ) → Unended t i j w g r → ¬ (slice_get t i ≡ Some (end_row w g r)) → Unended t (i + 1) j w g r
extend t i j w g r u n = record { starts = u.starts; not_ended = λ k a b. go k a b (ℕ_discrete k i) }
  where
    go : (k : ℕ) → j < k → k < i + 1 → Dec (k ≡ i) → ¬ (slice_get t k ≡ Some (end_row w g r))
    go k a b (yes e) = λ q. n (ap (λ z. slice_get t z) (sym e) ∙ q)
    go k a b (no m) = let c : k < i = omega arith in u.not_ended k a c

-- a row that ends no open run of the worker
pub keeps_open : (t : List Row) (p i w : ℕ) (o : Option ℕ) → OpenPlace t p i w o → ((s : ℕ) (g : Tag) (r : ℕ) → o ≡ Some s → slice_get t s ≡ Some (start_row w g r) → ¬ (slice_get t i ≡ Some (end_row w g r))) → OpenPlace t p (i + 1) w o
keeps_open t p i w None h n = λ j g r l u. h j g r l (weaken t i j w g r u)
keeps_open t p i w (Some s) h n = record { tag = h.tag; reaction = h.reaction; before = h.before; unended = extend t i s w h.tag h.reaction h.unended (n s h.tag h.reaction refl h.unended.starts); only = λ j g r l u. h.only j g r l (weaken t i j w g r u) }

pub same_start : (w : ℕ) (g h : Tag) (r a : ℕ) → Some (start_row w g r) ≡ Some (start_row w h a) → end_row w g r ≡ end_row w h a
same_start w g h r a e = let q : start_row w g r ≡ start_row w h a = cc in let x : g ≡ h = ap (λ (z : Row). z.tag) q in let y : r ≡ a = ap (λ (z : Row). z.reaction) q in cc

-- the row that ends the open run of the worker
pub ends_open : (t : List Row) (p i w s : ℕ) (g : Tag) (r : ℕ) → p ≤ i → OpenPlace t p i w (Some s) → slice_get t s ≡ Some (start_row w g r) → slice_get t i ≡ Some (end_row w g r) → OpenPlace t p (i + 1) w None
ends_open t p i w s g r le h st en = λ j g' r' l u. go j g' r' l u (h.only j g' r' l (weaken t i j w g' r' u))
  where
    go : (j : ℕ) (g' : Tag) (r' : ℕ) → j < p → Unended t (i + 1) j w g' r' → j ≡ s → ⊥
    go j g' r' l u e =
        let q : Some (start_row w g' r') ≡ Some (start_row w g r) = sym u.starts ∙ ap (λ z. slice_get t z) e ∙ st in
        let x : end_row w g' r' ≡ end_row w g r = same_start w g' g r' r q in
        let a : j < i = omega arith in
        let b : i < i + 1 = omega arith in
        u.not_ended i a b (en ∙ ap Some (sym x))

-- a row that starts no run of the worker
pub starts_none : (t : List Row) (i w : ℕ) (o : Option ℕ) → OpenPlace t i (i + 1) w o → ((g : Tag) (r : ℕ) → ¬ (slice_get t i ≡ Some (start_row w g r))) → OpenPlace t (i + 1) (i + 1) w o
starts_none t i w None h n = λ j g r l u. go j g r l u (ℕ_discrete j i)
  where
    go : (j : ℕ) (g : Tag) (r : ℕ) → j < i + 1 → Unended t (i + 1) j w g r → Dec (j ≡ i) → ⊥
    go j g r l u (yes e) = n g r (ap (λ z. slice_get t z) (sym e) ∙ u.starts)
    go j g r l u (no m) = let a : j < i = omega arith in h j g r a u
starts_none t i w (Some s) h n = let b : s < i = h.before in let a : s < i + 1 = omega arith in record { tag = h.tag; reaction = h.reaction; before = a; unended = h.unended; only = λ j g r l u. go j g r l u (ℕ_discrete j i) }
  where
    go : (j : ℕ) (g : Tag) (r : ℕ) → j < i + 1 → Unended t (i + 1) j w g r → Dec (j ≡ i) → j ≡ s
    go j g r l u (yes e) = absurd (n g r (ap (λ z. slice_get t z) (sym e) ∙ u.starts))
    go j g r l u (no m) = let a : j < i = omega arith in h.only j g r a u

-- the row that starts a run of a worker without one
pub starts_one : (t : List Row) (i w : ℕ) (g : Tag) (r : ℕ) → OpenPlace t i (i + 1) w None → slice_get t i ≡ Some (start_row w g r) → OpenPlace t (i + 1) (i + 1) w (Some i)
starts_one t i w g r h st = record { tag = g; reaction = r; before = omega arith; unended = record { starts = st; not_ended = λ k a b. absurd (omega arith) }; only = λ j g' r' l u. go j g' r' l u (ℕ_discrete j i) }
  where
    go : (j : ℕ) (g' : Tag) (r' : ℕ) → j < i + 1 → Unended t (i + 1) j w g' r' → Dec (j ≡ i) → j ≡ i
    go j g' r' l u (yes e) = e
    go j g' r' l u (no m) = let a : j < i = omega arith in absurd (h j g' r' a u)

-- an open run is the one that is kept
pub open_kept : (t : List Row) (i w s : ℕ) (g : Tag) (r : ℕ) → OpenPlace t i i w (Some s) → IsOpen t i w g r → slice_get t s ≡ Some (start_row w g r)
open_kept t i w s g r h o = let e : o.start ≡ s = h.only o.start g r o.before (record { starts = o.starts; not_ended = o.not_ended }) in ap (λ z. slice_get t z) (sym e) ∙ o.starts

pub none_open : (t : List Row) (i w : ℕ) → OpenPlace t i i w None → (g : Tag) (r : ℕ) → ¬ IsOpen t i w g r
none_open t i w h g r o = h o.start g r o.before (record { starts = o.starts; not_ended = o.not_ended })
