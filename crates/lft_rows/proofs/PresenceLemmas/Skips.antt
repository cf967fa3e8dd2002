-- Causes of one name stand in the order of the tags to which they lead.
use Rattle.std.proofs.Common.{◌≡◌, ℕ, ◌+◌, ◌<◌, ◌≤◌, ◌⊎◌, inl, inr, List, length, refl, sym, ap, ◌∙◌, subst, arith, true, Some, slice_get}
use Rattle.std.proofs.lemmas.Bool.{cases_lt}
use native.Mathlib.Decide.{ℕ_discrete}
use Rattle.lft_tag.{specs.{declared.Tag.Tag, Tags.{Before, UpTo}, Shifts.{Folded, shifted}}, proofs.Order.{UpTo-refl, UpTo-not, order_cases}}
use Rattle.lft_rows.specs.declared.presence.causes.EventCause.{EventCause}
use Rattle.lft_rows.specs.inner.Presence.Causes.{tag_of, ComesUpTo, AreAscending, LiesBelow, IsPosition, IsSkip, Leads}
use Rattle.lft_rows.proofs.PresenceLemmas.Positions.{shifted_mono, tag_up, same_cause}

-- a later cause of the name leads no earlier
pub leads_up : (causes : List EventCause) → AreAscending causes → (s : Folded) (j k : ℕ) (x y : EventCause) → j ≤ k → slice_get causes j ≡ Some x → slice_get causes k ≡ Some y → x.name ≡ y.name → UpTo (shifted (tag_of x) s) (shifted (tag_of y) s)
leads_up causes up s j k x y l e f q = go (ℕ_discrete j k)
  where
    by : ComesUpTo x y → UpTo (shifted (tag_of x) s) (shifted (tag_of y) s)
    by (inl m) = let a : x.name < y.name = m in absurd (omega arith)
    by (inr m) = shifted_mono (tag_of x) (tag_of y) s (tag_up x y m.1)

    go : Dec (j ≡ k) → UpTo (shifted (tag_of x) s) (shifted (tag_of y) s)
    go (yes d) = subst (λ (z : EventCause). UpTo (shifted (tag_of x) s) (shifted (tag_of z) s)) (same_cause causes j k x y d e f) (UpTo-refl (shifted (tag_of x) s))
    go (no n) = by (up j k x y (omega arith) e f)

-- a later cause is of no lesser name
pub names_up : (causes : List EventCause) → AreAscending causes → (j k : ℕ) (x y : EventCause) → j ≤ k → slice_get causes j ≡ Some x → slice_get causes k ≡ Some y → x.name ≤ y.name
names_up causes up j k x y l e f = go (ℕ_discrete j k)
  where
    by : ComesUpTo x y → x.name ≤ y.name
    by (inl m) = let a : x.name < y.name = m in omega arith
    by (inr m) = let a : x.name ≡ y.name = m.0 in omega arith

    go : Dec (j ≡ k) → x.name ≤ y.name
    go (yes d) = let z : x.name ≡ y.name = ap (λ (v : EventCause). v.name) (same_cause causes j k x y d e f) in omega arith
    go (no n) = by (up j k x y (omega arith) e f)

-- the next place
module _ (causes : List EventCause) (up : AreAscending causes) (name : ℕ) (s : Folded) (g : Tag) (place : ℕ) (here : EventCause) (is_here : slice_get causes place ≡ Some here) (leads : Leads name s g here) where
  pub skip_one : place + 1 ≤ length causes → ((c : EventCause) → slice_get causes (place + 1) ≡ Some c → ¬ Leads name s g c) → IsSkip causes name s g place (place + 1)
  skip_one w other = record { further = omega arith; within = w; same = λ k c l m e. subst (λ (z : EventCause). Leads name s g z) (sym (same_cause causes k place c here (omega arith) e is_here)) leads; other = other }

  pub skip_many : (n : ℕ) → IsPosition causes name s g true n → IsSkip causes name s g place n
  skip_many n h = record { further = further (cases_lt place n); within = h.within; same = same; other = λ c e m. h.rest n c (omega arith) e (inr (m.0, inr (refl, m.1))) }
    where
      further : (place < n) ⊎ (n ≤ place) → place < n
      further (inl l) = l
      further (inr l) = absurd (h.rest place here l is_here (inr (leads.0, inr (refl, leads.1))))

      same : (k : ℕ) (c : EventCause) → place ≤ k → k < n → slice_get causes k ≡ Some c → Leads name s g c
      same k c l m e = go (h.below k c m e)
        where
          not_before : c.name ≡ name → ¬ Before (shifted (tag_of c) s) g
          not_before q b = UpTo-not g (shifted (tag_of c) s) (subst (λ (z : Tag). UpTo z (shifted (tag_of c) s)) leads.1 (leads_up causes up s place k here c l is_here e (leads.0 ∙ sym q))) b

          no_lesser : ¬ (c.name < name)
          no_lesser b = let a : here.name ≤ c.name = names_up causes up place k here c l is_here e in let d : here.name ≡ name = leads.0 in absurd (omega arith)

          go : LiesBelow name s g true c → Leads name s g c
          go (inl b) = absurd (no_lesser b)
          go (inr (b, inl d)) = absurd (not_before b d)
          go (inr (b, inr d)) = (b, d.1)

pub up_to_stop : (last g : Tag) → ¬ Before last g → UpTo g last
up_to_stop last g n = go (order_cases last g)
  where
    go : Before last g ⊎ UpTo g last → UpTo g last
    go (inl b) = absurd (n b)
    go (inr u) = u
