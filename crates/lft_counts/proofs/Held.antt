-- Counts that aren't 0, and what they count.
use Rattle.std.proofs.Common.{◌≡◌, ℕ, ◌<◌, List, length, sym, ap, ◌∙◌, subst, arith, Some, slice_get}
use native.Mathlib.Decide.{dec_lt}
use Rattle.lft_ir.specs.declared.steps.row.Row.{Row}
use Rattle.lft_counts.specs.{declared.orders.{Order.Order, Orders.Orders}, Orders.{Stands, IsApart}, inner.Orders.IsOrderMet}
use Rattle.lft_graph.{specs.Counts.{Count, none, more, same}, proofs.Counting.count_same}

one_of : {P : ℕ → Type 0} {k n : ℕ} → Count P k n → 0 < n → (j : ℕ) × (j < k) × P j
one_of none l = absurd (omega arith)
one_of (more {k = k} p c) l = (k, omega arith, p)
one_of (same {k = k} p c) l = let x = one_of c l in let m = x.1 in (x.0, omega arith, x.2)

is_none : {P : ℕ → Type 0} {k n : ℕ} → Count P k n → n ≡ 0 → (j : ℕ) → j < k → P j → ⊥
is_none none z j l p = absurd (omega arith)
is_none (more {k = k} {n = n} q c) z j l p = absurd (omega (arith, z))
is_none {P} (same {k = k} q c) z j l p = go (is_none c z j) (dec_lt j k)
  where
    go : (j < k → P j → ⊥) → Dec (j < k) → ⊥
    go below (yes m) = below m p
    go below (no m) = let e : j ≡ k = omega arith in q (subst P e p)

-- the order at place k of a list has a count that isn't 0
abbrev pub Has : (Order → ℕ) → List Order → ℕ → Type 0
Has f all k = (x : Order) × (slice_get all k ≡ Some x) × (f x ≡ 0 → ⊥)

pub has : (f : Order → ℕ) (all : List Order) (k : ℕ) (x : Order) → slice_get all k ≡ Some x → ¬ (f x ≡ 0) → Has f all k
has f all k x e n = (x, e, n)

pub has_not : (f : Order → ℕ) (all : List Order) (k : ℕ) (x : Order) → slice_get all k ≡ Some x → f x ≡ 0 → Has f all k → ⊥
has_not f all k x e z y = let s : Some x ≡ Some y.0 = sym e ∙ y.1 in let q : x ≡ y.0 = cc in y.2 (ap f (sym q) ∙ z)

pub held_all : (t : List Row) (m i : ℕ) (o : Orders) (n : ℕ) → Stands t m i o → Count (Has (λ x. x.both) o.all.items) (length o.all.items) n → Count (IsOrderMet t i o.all.items) (length o.all.items) n
held_all t m i o n so c = count_same there back c
  where
    there : (k : ℕ) → k < length o.all.items → Has (λ x. x.both) o.all.items k → IsOrderMet t i o.all.items k
    there k l x = let z = x.2 in let y = one_of (so.counted k x.0 x.1).both (omega (arith, z)) in (x.0, y.0, x.1, y.1, y.2)

    back : (k : ℕ) → k < length o.all.items → IsOrderMet t i o.all.items k → Has (λ x. x.both) o.all.items k
    back k l x = (x.0, x.2, λ z. is_none (so.counted k x.0 x.2).both z x.1 x.3 x.4)

pub apart_all : (t : List Row) (m i : ℕ) (o : Orders) (n : ℕ) → Stands t m i o → Count (Has (λ x. x.apart) o.all.items) (length o.all.items) n → Count (IsApart t i o.all.items) (length o.all.items) n
apart_all t m i o n so c = count_same there back c
  where
    there : (k : ℕ) → k < length o.all.items → Has (λ x. x.apart) o.all.items k → IsApart t i o.all.items k
    there k l x = let z = x.2 in let y = one_of (so.counted k x.0 x.1).apart (omega (arith, z)) in (x.0, y.0, x.1, y.1, y.2)

    back : (k : ℕ) → k < length o.all.items → IsApart t i o.all.items k → Has (λ x. x.apart) o.all.items k
    back k l x = (x.0, x.2, λ z. is_none (so.counted k x.0 x.2).apart z x.1 x.3 x.4)
