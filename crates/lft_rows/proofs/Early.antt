-- The least of the rules 1 to 4.
use Rattle.std.proofs.Common.{◌≡◌, ℕ, ◌+◌, ◌<◌, ◌⊎◌, inl, inr, List, refl, sym, ap, ◌∙◌, subst, arith, Option, Some, None, slice_get}
use native.Mathlib.Decide.{ℕ_discrete}
use Rattle.lft_tag.{specs.{declared.Tag.Tag, Tags.{Before, UpTo}}, proofs.Order.{UpTo-refl, UpTo-trans}}
use Rattle.lft_ir.specs.declared.steps.row.Row.{Row}
use Rattle.lft_model.specs.{Runs.start_row, Breaches.IsLate}
use Rattle.lft_rows.specs.inner.Passes.{IsLatest, LastStart}

-- rule 1 by the latest tag
pub late_of : (t : List Row) (i : ℕ) (row : Row) (last : Tag) → IsLatest t i last → Before row.tag last → IsLate t i row
late_of t i row last h b = go h.is_one
  where
    go : ((j : ℕ) × (x : Row) × (j < i) × (slice_get t j ≡ Some x) × (x.tag ≡ last)) ⊎ (last ≡ record { time = 0; micro = 0 }) → IsLate t i row
    go (inl (j, x, l, e, q)) = (j, x, l, e, subst (λ z. Before row.tag z) (sym q) b)
    go (inr q) = let z : Before row.tag (record { time = 0; micro = 0 }) = subst (λ z. Before row.tag z) q b in absurd (omega arith)

pub latest_more : (t : List Row) (i : ℕ) (row : Row) (last : Tag) → IsLatest t i last → slice_get t i ≡ Some row → UpTo last row.tag → IsLatest t (i + 1) row.tag
latest_more t i row last h e u = record { each = λ j x l q. go j x l q (ℕ_discrete j i); is_one = inl (i, row, omega arith, e, refl) }
  where
    go : (j : ℕ) (x : Row) → j < i + 1 → slice_get t j ≡ Some x → Dec (j ≡ i) → UpTo x.tag row.tag
    go j x l q (yes z) = let y : Some x ≡ Some row = sym q ∙ ap (λ k. slice_get t k) z ∙ e in let v : x ≡ row = cc in subst (λ (k : Row). UpTo k.tag row.tag) (sym v) (UpTo-refl row.tag)
    go j x l q (no n) = let a : j < i = omega arith in UpTo-trans x.tag last row.tag (h.each j x a q) u

pub latest_none : (t : List Row) → IsLatest t 0 (record { time = 0; micro = 0 })
latest_none t = record { each = λ j x l q. absurd (omega arith); is_one = inr refl }

-- one more row
pub start_more : (t : List Row) (i r w : ℕ) (g top : Tag) → IsLatest t i top → UpTo top g → slice_get t i ≡ Some (start_row w g r) → LastStart t (i + 1) r (Some g)
start_more t i r w g top m u e = ((i, w, omega arith, e), λ j v h l q. go j v h l q (ℕ_discrete j i))
  where
    go : (j v : ℕ) (h : Tag) → j < i + 1 → slice_get t j ≡ Some (start_row v h r) → Dec (j ≡ i) → UpTo h g
    go j v h l q (yes z) = let y : Some (start_row v h r) ≡ Some (start_row w g r) = sym q ∙ ap (λ k. slice_get t k) z ∙ e in let x : start_row v h r ≡ start_row w g r = cc in let y : h ≡ g = ap (λ (k : Row). k.tag) x in subst (λ k. UpTo k g) (sym y) (UpTo-refl g)
    go j v h l q (no n) = let a : j < i = omega arith in UpTo-trans h top g (m.each j (start_row v h r) a q) u

pub start_same : (t : List Row) (i r : ℕ) (o : Option Tag) → LastStart t i r o → ((w : ℕ) (g : Tag) → ¬ (slice_get t i ≡ Some (start_row w g r))) → LastStart t (i + 1) r o
start_same t i r None h n = λ j w g l q. go j w g l q (ℕ_discrete j i)
  where
    go : (j w : ℕ) (g : Tag) → j < i + 1 → slice_get t j ≡ Some (start_row w g r) → Dec (j ≡ i) → ⊥
    go j w g l q (yes z) = n w g (ap (λ k. slice_get t k) (sym z) ∙ q)
    go j w g l q (no m) = let a : j < i = omega arith in h j w g a q
start_same t i r (Some last) h n = let b : h.0.0 < i = h.0.2 in ((h.0.0, h.0.1, omega arith, h.0.3), λ j w g l q. go j w g l q (ℕ_discrete j i))
  where
    go : (j w : ℕ) (g : Tag) → j < i + 1 → slice_get t j ≡ Some (start_row w g r) → Dec (j ≡ i) → UpTo g last
    go j w g l q (yes z) = absurd (n w g (ap (λ k. slice_get t k) (sym z) ∙ q))
    go j w g l q (no m) = let a : j < i = omega arith in h.1 j w g a q
