-- Which causes of a key stand where a search ends.
use Rattle.std.proofs.Common.{◌≡◌, ◌≢◌, ℕ, ◌+◌, ◌<◌, ◌≤◌, ◌⊎◌, inl, inr, List, length, refl, sym, ◌∙◌, subst, arith, Bool, true, false, Some, None, slice_get}
use Rattle.std.proofs.lemmas.Bool.{cases_lt}
use native.Mathlib.Decide.{ℕ_discrete}
use Rattle.lft_tag.{specs.{declared.Tag.Tag, Tags.{Before, UpTo}, Shifts.{Folded, shifted}}, proofs.Order.{Before-irrefl, Before-trans, order_cases, split_up}}
use Rattle.lft_lists.proofs.Places.{same_at}
use Rattle.lft_ir.specs.declared.steps.row.Row.{Row}
use Rattle.lft_model.{specs.Plans.PlanParts, proofs.Places.slice_get_within}
use Rattle.lft_rows.specs.declared.presence.causes.EventCause.{EventCause}
use Rattle.lft_rows.specs.inner.Presence.Causes.{tag_of, ComesUpTo, AreCauses, LiesBelow, IsPosition, Leads, IsCause}
use Rattle.lft_rows.specs.inner.Presence.Lookups.{IsFirstCause, LeadsBefore, IsLastBefore, LeadsAfter, IsFirstAfter}
use Rattle.lft_rows.proofs.PresenceLemmas.{Positions.{shifted_mono, tag_up}, Presences.comes_self}

-- the tags of causes of one name are in the order of these
pub in_order : (x y : EventCause) → x.name ≡ y.name → ComesUpTo x y → UpTo (tag_of x) (tag_of y)
in_order x y e (inl l) = let a : x.name < y.name = l in absurd (omega arith)
in_order x y e (inr o) = tag_up x y o.1

-- a cause that comes up to another one stands there or later
module _ (plan : PlanParts) (t : List Row) (causes : List EventCause) (are : AreCauses plan t causes) (key : ℕ) (s : Folded) (g : Tag) (past : Bool) (n : ℕ) (h : IsPosition causes key s g past n) where
  stands_from : (c : EventCause) → IsCause plan t c → ¬ LiesBelow key s g past c → (k : ℕ) × (n ≤ k) × (slice_get causes k ≡ Some c)
  stands_from c i b = go (are.just.each c i)
    where
      go : (k : ℕ) × (slice_get causes k ≡ Some c) → (k : ℕ) × (n ≤ k) × (slice_get causes k ≡ Some c)
      go (k, e) = by (cases_lt k n)
        where
          by : (k < n) ⊎ (n ≤ k) → (k : ℕ) × (n ≤ k) × (slice_get causes k ≡ Some c)
          by (inl m) = absurd (b (h.below k c m e))
          by (inr m) = (k, m, e)

  stands_before : (c : EventCause) → IsCause plan t c → LiesBelow key s g past c → (k : ℕ) × (k < n) × (slice_get causes k ≡ Some c)
  stands_before c i b = go (are.just.each c i)
    where
      go : (k : ℕ) × (slice_get causes k ≡ Some c) → (k : ℕ) × (k < n) × (slice_get causes k ≡ Some c)
      go (k, e) = by (cases_lt k n)
        where
          by : (k < n) ⊎ (n ≤ k) → (k : ℕ) × (k < n) × (slice_get causes k ≡ Some c)
          by (inl m) = (k, m, e)
          by (inr m) = absurd (h.rest k c m e b)

  -- the cause at the position comes up to each from there on
  from_here : (c d : EventCause) → slice_get causes n ≡ Some c → (k : ℕ) × (n ≤ k) × (slice_get causes k ≡ Some d) → ComesUpTo c d
  from_here c d e (k, l, f) = go (ℕ_discrete n k)
    where
      go : Dec (n ≡ k) → ComesUpTo c d
      go (yes q) = subst (λ z. ComesUpTo c z) (same_at causes n k c d e f q) (comes_self c)
      go (no m) = are.ascending n k c d (omega arith) e f

  -- each before the position comes up to the one that stands last there
  to_last : (c d : EventCause) (j : ℕ) → j + 1 ≡ n → slice_get causes j ≡ Some c → (k : ℕ) × (k < n) × (slice_get causes k ≡ Some d) → ComesUpTo d c
  to_last c d j is e (k, l, f) = go (ℕ_discrete k j)
    where
      go : Dec (k ≡ j) → ComesUpTo d c
      go (yes q) = subst (λ z. ComesUpTo z c) (same_at causes j k c d e f (sym q)) (comes_self c)
      go (no m) = are.ascending k j d c (omega arith) f e

  none_from : n ≡ length causes → (c : EventCause) → ¬ ((k : ℕ) × (n ≤ k) × (slice_get causes k ≡ Some c))
  none_from e c (k, l, f) = let m : k < length causes = slice_get_within causes k c f in absurd (omega arith)

-- the first cause that leads to the tag
module _ (plan : PlanParts) (t : List Row) (causes : List EventCause) (are : AreCauses plan t causes) (key : ℕ) (s : Folded) (g : Tag) (n : ℕ) (h : IsPosition causes key s g false n) where
  leads_from : (c : EventCause) → Leads key s g c → ¬ LiesBelow key s g false c
  leads_from c l (inl m) = let a : c.name < key = m in let b : c.name ≡ key = l.0 in omega arith
  leads_from c l (inr (q, inl b)) = Before-irrefl g (subst (λ (z : Tag). Before z g) l.1 b)
  leads_from c l (inr (q, inr e)) = let z : ◌≡◌ {A = Bool} false true = e.0 in absurd (cc)

  pub first_end : n ≡ length causes → IsFirstCause plan t key s g None
  first_end e c i l = none_from plan t causes are key s g false n h e c (stands_from plan t causes are key s g false n h c i (leads_from c l))

  module _ (first : EventCause) (is_first : slice_get causes n ≡ Some first) where
    up_to : (c : EventCause) → IsCause plan t c → Leads key s g c → ComesUpTo first c
    up_to c i l = from_here plan t causes are key s g false n h first c is_first (stands_from plan t causes are key s g false n h c i (leads_from c l))

    pub first_leads : Leads key s g first → IsFirstCause plan t key s g (Some first)
    first_leads l = (are.just.only n first is_first, l, up_to)

    pub first_leads_not : ¬ Leads key s g first → IsFirstCause plan t key s g None
    first_leads_not d c i l = go (up_to c i l)
      where
        rest : ¬ LiesBelow key s g false first
        rest = h.rest n first (omega arith) is_first

        go : ComesUpTo first c → ⊥
        go (inl m) = let a : first.name < c.name = m in let b : c.name ≡ key = l.0 in rest (inl (omega arith))
        go (inr m) = by (split_up (shifted (tag_of first) s) g (subst (λ (z : Tag). UpTo (shifted (tag_of first) s) z) l.1 (shifted_mono (tag_of first) (tag_of c) s (tag_up first c m.1))))
          where
            by : Before (shifted (tag_of first) s) g ⊎ (shifted (tag_of first) s ≡ g) → ⊥
            by (inl b) = rest (inr (m.0 ∙ l.0, inl b))
            by (inr e) = d (m.0 ∙ l.0, e)

-- the last cause that leads to an earlier tag
module _ (plan : PlanParts) (t : List Row) (causes : List EventCause) (are : AreCauses plan t causes) (key : ℕ) (s : Folded) (g : Tag) (n : ℕ) (h : IsPosition causes key s g false n) where
  stands : (c : EventCause) → IsCause plan t c → LeadsBefore key s g c → (k : ℕ) × (k < n) × (slice_get causes k ≡ Some c)
  stands c i l = stands_before plan t causes are key s g false n h c i (inr (l.0, inl l.1))

  pub before_none : n ≡ 0 → IsLastBefore plan t key s g None
  before_none z c i l = let b = stands c i l in let m : b.0 < n = b.1 in omega arith

  module _ (last : EventCause) (k : ℕ) (is : k + 1 ≡ n) (is_last : slice_get causes k ≡ Some last) where
    pub before_last : last.name ≡ key → IsLastBefore plan t key s g (Some last)
    before_last q = (are.just.only k last is_last, (q, go (h.below k last (omega arith) is_last)), λ d i l. to_last plan t causes are key s g false n h last d k is is_last (stands d i l))
      where
        go : LiesBelow key s g false last → Before (shifted (tag_of last) s) g
        go (inl m) = let a : last.name < key = m in absurd (omega arith)
        go (inr (e, inl b)) = b
        go (inr (e, inr f)) = let z : ◌≡◌ {A = Bool} false true = f.0 in absurd (cc)

    pub before_other : last.name ≢ key → IsLastBefore plan t key s g None
    before_other d c i l = go (to_last plan t causes are key s g false n h last c k is is_last (stands c i l)) (h.below k last (omega arith) is_last)
      where
        go : ComesUpTo c last → LiesBelow key s g false last → ⊥
        go (inl m) (inl b) = let x : c.name < last.name = m in let y : last.name < key = b in let z : c.name ≡ key = l.0 in omega arith
        go (inr m) (inl b) = let x : c.name ≡ last.name = m.0 in let y : last.name < key = b in let z : c.name ≡ key = l.0 in omega arith
        go m (inr b) = d b.0

-- the first cause that leads to a later tag
module _ (plan : PlanParts) (t : List Row) (causes : List EventCause) (are : AreCauses plan t causes) (key : ℕ) (s : Folded) (g : Tag) (n : ℕ) (h : IsPosition causes key s g true n) where
  after_from : (c : EventCause) → LeadsAfter key s g c → ¬ LiesBelow key s g true c
  after_from c l (inl m) = let a : c.name < key = m in let b : c.name ≡ key = l.0 in omega arith
  after_from c l (inr (q, inl b)) = Before-irrefl g (Before-trans g (shifted (tag_of c) s) g l.1 b)
  after_from c l (inr (q, inr e)) = Before-irrefl g (subst (λ (z : Tag). Before g z) e.1 l.1)

  there : (c : EventCause) → IsCause plan t c → LeadsAfter key s g c → (k : ℕ) × (n ≤ k) × (slice_get causes k ≡ Some c)
  there c i l = stands_from plan t causes are key s g true n h c i (after_from c l)

  pub after_end : n ≡ length causes → IsFirstAfter plan t key s g None
  after_end e c i l = none_from plan t causes are key s g true n h e c (there c i l)

  module _ (first : EventCause) (is_first : slice_get causes n ≡ Some first) where
    rest : ¬ LiesBelow key s g true first
    rest = h.rest n first (omega arith) is_first

    pub after_first : first.name ≡ key → IsFirstAfter plan t key s g (Some first)
    after_first q = (are.just.only n first is_first, (q, go (order_cases g (shifted (tag_of first) s))), λ d i l. from_here plan t causes are key s g true n h first d is_first (there d i l))
      where
        go : Before g (shifted (tag_of first) s) ⊎ UpTo (shifted (tag_of first) s) g → Before g (shifted (tag_of first) s)
        go (inl b) = b
        go (inr u) = by (split_up (shifted (tag_of first) s) g u)
          where
            by : Before (shifted (tag_of first) s) g ⊎ (shifted (tag_of first) s ≡ g) → Before g (shifted (tag_of first) s)
            by (inl b) = absurd (rest (inr (q, inl b)))
            by (inr e) = absurd (rest (inr (q, inr (refl, e))))

    pub after_other : first.name ≢ key → IsFirstAfter plan t key s g None
    after_other d c i l = go (from_here plan t causes are key s g true n h first c is_first (there c i l))
      where
        go : ComesUpTo first c → ⊥
        go (inl m) = let x : first.name < c.name = m in let z : c.name ≡ key = l.0 in rest (inl (omega arith))
        go (inr m) = d (m.0 ∙ l.0)
