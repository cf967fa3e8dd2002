-- The order of causes, and how far a search has come.
use Rattle.std.proofs.Common.{◌≡◌, ℕ, zero, suc, ◌+◌, ◌<◌, ◌≤◌, ◌⊎◌, inl, inr, List, length, sym, ap, ◌∙◌, subst, arith, Bool, true, Some, slice_get}
use native.Mathlib.Decide.{ℕ_discrete}
use Rattle.lft_tag.specs.{declared.Tag.Tag, Tags.{Before, UpTo}, Shifts.{Folded, shifted}}
use Rattle.lft_tag.proofs.Order.{UpTo-Before, UpTo-refl, Before-weaken, order_cases, UpTo_antisym}
use Rattle.lft_rows.specs.{declared.presence.causes.EventCause.EventCause, inner.Presence.Causes.{tag_of, ComesUpTo, AreAscending, LiesBelow}}

-- a shift keeps the order of tags
pub shifted_mono : (g h : Tag) (s : Folded) → UpTo g h → UpTo (shifted g s) (shifted h s)
shifted_mono g h (zero, steps) (inl l) = inl l
shifted_mono g h (zero, steps) (inr (e, l)) = let a : g.micro ≤ h.micro = l in inr (e, omega arith)
shifted_mono g h (suc d, steps) (inl l) = let a : g.time < h.time = l in inl (omega arith)
shifted_mono g h (suc d, steps) (inr (e, l)) = let a : g.time ≡ h.time = e in inr (omega arith, omega arith)

pub tag_up : (x y : EventCause) → Before (tag_of x) (tag_of y) ⊎ ((tag_of x ≡ tag_of y) × (x.place ≤ y.place)) → UpTo (tag_of x) (tag_of y)
tag_up x y (inl b) = Before-weaken (tag_of x) (tag_of y) b
tag_up x y (inr e) = subst (λ (z : Tag). UpTo (tag_of x) z) e.0 (UpTo-refl (tag_of x))

-- g leads no further than h, which is below
leads_below : (g h k : Tag) (past : Bool) → UpTo g h → Before h k ⊎ ((past ≡ true) × (h ≡ k)) → Before g k ⊎ ((past ≡ true) × (g ≡ k))
leads_below g h k past u (inl b) = inl (UpTo-Before g h k u b)
leads_below g h k past u (inr e) = go (order_cases g k)
  where
    go : Before g k ⊎ UpTo k g → Before g k ⊎ ((past ≡ true) × (g ≡ k))
    go (inl b) = inl b
    go (inr v) = inr (e.0, UpTo_antisym g k (subst (λ (z : Tag). UpTo g z) e.1 u) v)

-- what comes before a cause that lies below does so too
pub below_down : (name : ℕ) (s : Folded) (g : Tag) (past : Bool) (x y : EventCause) → ComesUpTo x y → LiesBelow name s g past y → LiesBelow name s g past x
below_down name s g past x y (inl l) (inl m) = let a : x.name < y.name = l in let b : y.name < name = m in inl (omega arith)
below_down name s g past x y (inl l) (inr m) = let a : x.name < y.name = l in let b : y.name ≡ name = m.0 in inl (omega arith)
below_down name s g past x y (inr e) (inl m) = let a : x.name ≡ y.name = e.0 in let b : y.name < name = m in inl (omega arith)
below_down name s g past x y (inr e) (inr m) = inr (e.0 ∙ m.0, leads_below (shifted (tag_of x) s) (shifted (tag_of y) s) g past (shifted_mono (tag_of x) (tag_of y) s (tag_up x y e.1)) m.1)

-- the causes before low lie below, and those from high on don't
pub record IsBetween (causes : List EventCause) (name : ℕ) (s : Folded) (g : Tag) (past : Bool) (low high : ℕ) : Type 0 where
  pub order : low ≤ high
  pub within : high ≤ length causes
  pub below : (k : ℕ) (c : EventCause) → k < low → slice_get causes k ≡ Some c → LiesBelow name s g past c
  pub rest : (k : ℕ) (c : EventCause) → high ≤ k → slice_get causes k ≡ Some c → ¬ LiesBelow name s g past c

pub same_cause : (causes : List EventCause) (i j : ℕ) (x y : EventCause) → i ≡ j → slice_get causes i ≡ Some x → slice_get causes j ≡ Some y → x ≡ y
same_cause causes i j x y e p q = let a : Some x ≡ Some y = sym p ∙ ap (λ k. slice_get causes k) e ∙ q in cc

module _ (causes : List EventCause) (up : AreAscending causes) (name : ℕ) (s : Folded) (g : Tag) (past : Bool) (low high middle : ℕ) (h : IsBetween causes name s g past low high) (c : EventCause) (is_cause : slice_get causes middle ≡ Some c) (l : low ≤ middle) (m : middle < high) where
  pub lower : ¬ LiesBelow name s g past c → IsBetween causes name s g past low middle
  lower n = record { order = l; within = let w : high ≤ length causes = h.within in omega arith; below = h.below; rest = rest }
    where
      rest : (k : ℕ) (x : EventCause) → middle ≤ k → slice_get causes k ≡ Some x → ¬ LiesBelow name s g past x
      rest k x d e = go (ℕ_discrete k middle)
        where
          go : Dec (k ≡ middle) → ¬ LiesBelow name s g past x
          go (yes q) = subst (λ z. ¬ LiesBelow name s g past z) (sym (same_cause causes k middle x c q e is_cause)) n
          go (no f) = λ b. let a : middle < k = omega arith in n (below_down name s g past c x (up middle k c x a is_cause e) b)
