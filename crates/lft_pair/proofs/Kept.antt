-- The last starts of the rows before a place, one row after another.
use Rattle.std.proofs.Common.{◌≡◌, ℕ, ◌+◌, ◌<◌, ◌≤◌, ◌≢◌, ◌⊎◌, inl, inr, List, length, length-set, refl, sym, ap, ◌∙◌, subst, arith, Some, slice_get, slice_set, Bool, true, false}
use native.Mathlib.Decide.{ℕ_discrete, dec_lt}
use Rattle.lft_tag.{specs.{declared.Tag.Tag, Tags.{Before, UpTo}}, proofs.Order.{Before-irrefl, Before-UpTo, UpTo_antisym, order_cases}}
use Rattle.lft_ir.specs.declared.steps.row.{Row.Row, Step.TheVariants.Start}
use Rattle.lft_lists.proofs.Places.{get_write_cases}
use Rattle.lft_model.{specs.{Plans.PlanParts, Breaches.Legal, Runs.{start_row, Ran}}, proofs.{Legality.{four, rising}, Places.slice_get_within, Ended.row_is}}
use Rattle.lft_races.specs.Runs.{StartsAt}
use Rattle.lft_pair.specs.inner.Places.{IsLastStart, AreLastStarts, AreRowsUpTo, AreRowsAfter}

-- a row starts a run exactly where it is its start row
module _ (t : List Row) (i : ℕ) (row : Row) (is_row : slice_get t i ≡ Some row) where
  starts_here : row.step ≡ Start → StartsAt t row.tag row.reaction i
  starts_here s = (row.worker, is_row ∙ ap Some (row_is row row.worker row.tag row.reaction Start refl refl refl s))

  pub start_is : (g : Tag) (r : ℕ) → StartsAt t g r i → (row.step ≡ Start) × (row.tag ≡ g) × (row.reaction ≡ r)
  start_is g r x = let e : Some row ≡ Some (start_row x.0 g r) = sym is_row ∙ x.1 in let z : row ≡ start_row x.0 g r = cc in (ap (λ (y : Row). y.step) z, ap (λ (y : Row). y.tag) z, ap (λ (y : Row). y.reaction) z)

  pub is_start : (g : Tag) (r : ℕ) → row.step ≡ Start → row.tag ≡ g → row.reaction ≡ r → StartsAt t g r i
  is_start g r s e q = subst (λ (k : ℕ). StartsAt t g k i) q (subst (λ (h : Tag). StartsAt t h row.reaction i) e (starts_here s))

  -- the last starts with one row more, which starts no run
  pub starts_stay : (places : List ℕ) → ¬ (row.step ≡ Start) → AreLastStarts t i places → AreLastStarts t (i + 1) places
  starts_stay places n so_far r p e = record { starts = further (so_far r p e).starts; last = λ j g l x. go j g l x (ℕ_discrete j i) }
    where
      further : (p ≡ 0) ⊎ ((g : Tag) × (p < i) × StartsAt t g r p) → (p ≡ 0) ⊎ ((g : Tag) × (p < i + 1) × StartsAt t g r p)
      further (inl z) = inl z
      further (inr x) = let l : p < i = x.1 in inr (x.0, omega arith, x.2)

      go : (j : ℕ) (g : Tag) → j < i + 1 → StartsAt t g r j → Dec (j ≡ i) → j ≤ p
      go j g l x (yes d) = absurd (n (start_is g r (subst (λ k. StartsAt t g r k) d x)).0)
      go j g l x (no d) = (so_far r p e).last j g (omega arith) x

  -- the last starts with one row more, which starts a run
  pub starts_more : (places : List ℕ) → row.step ≡ Start → row.reaction < length places → AreLastStarts t i places → AreLastStarts t (i + 1) (slice_set places row.reaction i)
  starts_more places s known so_far r p e = go (get_write_cases places row.reaction r i p known e)
    where
      go : ((r ≡ row.reaction) × (i ≡ p)) ⊎ ((r ≢ row.reaction) × (slice_get places r ≡ Some p)) → IsLastStart t (i + 1) r p
      go (inl x) = let same = x.1 in record { starts = inr (row.tag, omega arith, subst (λ k. StartsAt t row.tag r k) x.1 (is_start row.tag r s refl (sym x.0))); last = λ j g l y. omega arith }
      go (inr x) = record { starts = further (so_far r p x.1).starts; last = λ j g l y. last j g l y (ℕ_discrete j i) }
        where
          further : (p ≡ 0) ⊎ ((g : Tag) × (p < i) × StartsAt t g r p) → (p ≡ 0) ⊎ ((g : Tag) × (p < i + 1) × StartsAt t g r p)
          further (inl z) = inl z
          further (inr y) = let l : p < i = y.1 in inr (y.0, omega arith, y.2)

          last : (j : ℕ) (g : Tag) → j < i + 1 → StartsAt t g r j → Dec (j ≡ i) → j ≤ p
          last j g l y (yes d) = absurd (x.0 (sym (start_is g r (subst (λ k. StartsAt t g r k) d y)).2))
          last j g l y (no d) = (so_far r p x.1).last j g (omega arith) y

  -- no row of the first ones is after a tag, with one row more
  pub up_to_more : (g : Tag) → ¬ Before g row.tag → AreRowsUpTo t i g → AreRowsUpTo t (i + 1) g
  up_to_more g n so_far j x l e = go (ℕ_discrete j i)
    where
      here : Before g row.tag ⊎ UpTo row.tag g → UpTo row.tag g
      here (inl b) = absurd (n b)
      here (inr u) = u

      go : Dec (j ≡ i) → UpTo x.tag g
      go (yes d) = let z : Some row ≡ Some x = sym is_row ∙ ap (λ k. slice_get t k) (sym d) ∙ e in let y : row ≡ x = cc in subst (λ (k : Row). UpTo k.tag g) y (here (order_cases g row.tag))
      go (no d) = so_far j x (omega arith) e

  -- from the first row on that is after a tag, all are
  pub after_from : (plan : PlanParts) → Legal plan t → (g : Tag) → Before g row.tag → AreRowsAfter t i g
  after_from plan legal g b j x l e = go (ℕ_discrete j i)
    where
      go : Dec (j ≡ i) → Before g x.tag
      go (yes d) = let z : Some row ≡ Some x = sym is_row ∙ ap (λ k. slice_get t k) (sym d) ∙ e in let y : row ≡ x = cc in subst (λ (k : Row). Before g k.tag) y b
      go (no d) = Before-UpTo g row.tag x.tag b (rising plan t (four plan t legal.rows) i j row x (omega arith) is_row e)

-- what holds before the row at place i is read: of n reactions the last starts are kept, and no row that was read is after g
pub record ReadTo (t : List Row) (g : Tag) (n i read : ℕ) (places : List ℕ) : Type 0 where
  pub at : read ≡ i
  pub as_long : length places ≡ n
  pub kept : AreLastStarts t read places
  pub up_to : AreRowsUpTo t read g

module _ (t : List Row) (i : ℕ) (row : Row) (is_row : slice_get t i ≡ Some row) (g : Tag) (late : ¬ Before g row.tag) (n read : ℕ) (places now : List ℕ) (so_far : ReadTo t g n i read places) where
  kept_here : AreLastStarts t i places
  kept_here = subst (λ (k : ℕ). AreLastStarts t k places) so_far.at so_far.kept

  up_to_here : AreRowsUpTo t (i + 1) g
  up_to_here = up_to_more t i row is_row g late (subst (λ (k : ℕ). AreRowsUpTo t k g) so_far.at so_far.up_to)

  -- a row that starts no run is read
  pub read_other : ¬ (row.step ≡ Start) → now ≡ places → ReadTo t g n (i + 1) (i + 1) now
  read_other other e = record { at = refl; as_long = ap length e ∙ so_far.as_long; kept = subst (λ (zs : List ℕ). AreLastStarts t (i + 1) zs) (sym e) (starts_stay t i row is_row places other kept_here); up_to = up_to_here }

  -- a row that starts a run is read
  pub read_start : row.step ≡ Start → row.reaction < n → now ≡ slice_set places row.reaction i → ReadTo t g n (i + 1) (i + 1) now
  read_start starts known e = record { at = refl; as_long = ap length e ∙ length-set places row.reaction i ∙ so_far.as_long; kept = subst (λ (zs : List ℕ). AreLastStarts t (i + 1) zs) (sym e) (starts_more t i row is_row places starts (let l = so_far.as_long in omega arith) kept_here); up_to = up_to_here }

-- no row stands behind the last
pub after_end : (t : List Row) (i : ℕ) (g : Tag) → length t ≤ i → AreRowsAfter t i g
after_end t i g l j x m e = let k : j < length t = slice_get_within t j x e in absurd (omega arith)

-- where the last start of r isn't one at g, r has no run at g
module _ (plan : PlanParts) (t : List Row) (legal : Legal plan t) (i : ℕ) (g : Tag) (read : AreRowsUpTo t i g) (rest : AreRowsAfter t i g) (r p : ℕ) (kept : IsLastStart t i r p) where
  at_last : Ran t g r → StartsAt t g r p
  at_last o = go (dec_lt o.place i)
    where
      go : Dec (o.place < i) → StartsAt t g r p
      go (no n) = absurd (Before-irrefl g (rest o.place (start_row o.worker g r) (omega arith) o.starts))
      go (yes l) = by kept.starts (ℕ_discrete o.place p)
        where
          under : o.place ≤ p
          under = kept.last o.place g l (o.worker, o.starts)

          by : (p ≡ 0) ⊎ ((h : Tag) × (p < i) × StartsAt t h r p) → Dec (o.place ≡ p) → StartsAt t g r p
          by z (yes d) = subst (λ k. StartsAt t g r k) d (o.worker, o.starts)
          by (inl z) (no d) = let u = under in absurd (d (omega arith))
          by (inr x) (no d) =
              let u = under in
              let high : UpTo x.0 g = read p (start_row x.2.0 x.0 r) x.1 x.2.1 in
              let low : UpTo g x.0 = rising plan t (four plan t legal.rows) o.place p (start_row o.worker g r) (start_row x.2.0 x.0 r) (omega arith) o.starts x.2.1 in
              subst (λ (h : Tag). StartsAt t h r p) (UpTo_antisym x.0 g high low) x.2

  pub none_there : (StartsAt t g r p → ◌≡◌ {A = Bool} false true) → ¬ Ran t g r
  none_there back o = let y : ◌≡◌ {A = Bool} false true = back (at_last o) in absurd (cc)
