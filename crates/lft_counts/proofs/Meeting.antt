-- Where an order is met.
use Rattle.std.proofs.Common.{◌≡◌, ℕ, ◌+◌, ◌<◌, List, Some, None, sym, ap, ◌∙◌, subst, arith, slice_get}
use native.Mathlib.Decide.{dec_lt}
use Rattle.lft_tag.{specs.declared.Tag.Tag, proofs.Order.UpTo_antisym}
use Rattle.lft_ir.specs.declared.steps.row.Row.{Row}
use Rattle.lft_model.{specs.{Breaches.WasStarted, Runs.start_row}, proofs.Legality.{KeepsFour, four, rising, one_start}}
use Rattle.lft_counts.specs.{declared.orders.Last.Last, inner.Counts.KeepsRows, Orders.{IsLast, MeetsAt, ApartAt}}
use Rattle.lft_graph.specs.Counts.{Count, more, same}

pub same_row : (w v : ℕ) (g h : Tag) (r q : ℕ) → Some (start_row w g r) ≡ Some (start_row v h q) → (w ≡ v) × (g ≡ h) × (r ≡ q)
same_row w v g h r q e = let z : start_row w g r ≡ start_row v h q = cc in (ap (λ (y : Row). y.worker) z, ap (λ (y : Row). y.tag) z, ap (λ (y : Row). y.reaction) z)

module _ (t : List Row) (ruled : KeepsRows t) (i w : ℕ) (g : Tag) (r a : ℕ) (here : slice_get t i ≡ Some (start_row w g r)) where
  well : KeepsFour ruled.0 t
  well = four ruled.0 t ruled.1

  -- an earlier start at this tag is the last one
  is_last_one : (l : Last) (is : IsLast t i a (Some l)) (j v : ℕ) → j < i → slice_get t j ≡ Some (start_row v g a) → (l.tag ≡ g) × (l.worker ≡ v)
  unfolding well
  is_last_one l is j v m e = go (dec_lt is.0 j) (dec_lt j is.0)
    where
      go : Dec (is.0 < j) → Dec (j < is.0) → (l.tag ≡ g) × (l.worker ≡ v)
      go (yes p) q = absurd (is.3 j v g (omega arith) m e)
      go (no p) (yes q) =
          let up = rising ruled.0 t well j is.0 (start_row v g a) (start_row l.worker l.tag a) q e is.2 in
          let down = rising ruled.0 t well is.0 i (start_row l.worker l.tag a) (start_row w g r) is.1 is.2 here in
          let s : l.tag ≡ g = UpTo_antisym l.tag g down up in
          let f : is.0 ≡ j = one_start ruled.0 t well is.0 j l.worker v g a (is.2 ∙ ap (λ (h : Tag). Some (start_row l.worker h a)) s) e in
          absurd (omega arith)
      go (no p) (no q) =
          let f : is.0 ≡ j = omega arith in
          let z = same_row l.worker v l.tag g a a (sym is.2 ∙ ap (λ k. slice_get t k) f ∙ e) in
          (z.1, z.0)

  started : (l : Last) (is : IsLast t i a (Some l)) → l.tag ≡ g → slice_get t is.0 ≡ Some (start_row l.worker g a)
  started l is e = is.2 ∙ ap (λ (h : Tag). Some (start_row l.worker h a)) e

  meets : (l : Last) → IsLast t i a (Some l) → l.tag ≡ g → MeetsAt t a r i
  unfolding started
  meets l is e = record { worker = w; tag = g; starts = here; ran = (is.0, l.worker, is.1, started l is e) }

  stands_apart : (l : Last) → IsLast t i a (Some l) → l.tag ≡ g → ¬ (l.worker ≡ w) → ApartAt t a r i
  unfolding started
  stands_apart l is e n = record { worker = w; tag = g; place = is.0; other = l.worker; starts = here; before = is.1; earlier = started l is e; apart = n }

  -- what is met there is met by this row
  met_here : MeetsAt t a r i → WasStarted t i g a
  met_here x = let z = same_row x.worker w x.tag g r r (sym x.starts ∙ here) in subst (λ (h : Tag). WasStarted t i h a) z.1 x.ran

  apart_meets : ApartAt t a r i → MeetsAt t a r i
  apart_meets x = record { worker = x.worker; tag = x.tag; starts = x.starts; ran = (x.place, x.other, x.before, x.earlier) }

  other_tag : (l : Last) → IsLast t i a (Some l) → ¬ (l.tag ≡ g) → MeetsAt t a r i → ⊥
  unfolding met_here
  other_tag l is n x = let y = met_here x in n (is_last_one l is y.0 y.1 y.2 y.3).0

  never : IsLast t i a None → MeetsAt t a r i → ⊥
  never is x = let y = met_here x in is y.0 y.1 g (omega arith) y.2 y.3

  one_worker : (l : Last) → IsLast t i a (Some l) → l.worker ≡ w → ApartAt t a r i → ⊥
  one_worker l is e x =
      let z = same_row x.worker w x.tag g r r (sym x.starts ∙ here) in
      let y = is_last_one l is x.place x.other x.before (x.earlier ∙ ap (λ (h : Tag). Some (start_row x.other h a)) z.1) in
      x.apart (sym y.1 ∙ e ∙ sym z.0)

  module _ (both apart : ℕ) (was_both : Count (MeetsAt t a r) i both) (was_apart : Count (ApartAt t a r) i apart) where
    pub met_apart : (l : Last) → IsLast t i a (Some l) → l.tag ≡ g → ¬ (l.worker ≡ w) → Count (MeetsAt t a r) (i + 1) (both + 1) × Count (ApartAt t a r) (i + 1) (apart + 1)
    met_apart l is e n = (more (meets l is e) was_both, more (stands_apart l is e n) was_apart)

    pub met_beside : (l : Last) → IsLast t i a (Some l) → l.tag ≡ g → l.worker ≡ w → Count (MeetsAt t a r) (i + 1) (both + 1) × Count (ApartAt t a r) (i + 1) apart
    met_beside l is e s = (more (meets l is e) was_both, same (one_worker l is s) was_apart)

    pub met_elsewhere : (l : Last) → IsLast t i a (Some l) → ¬ (l.tag ≡ g) → Count (MeetsAt t a r) (i + 1) both × Count (ApartAt t a r) (i + 1) apart
    met_elsewhere l is n = (same (other_tag l is n) was_both, same (λ x. other_tag l is n (apart_meets x)) was_apart)

    pub met_never : IsLast t i a None → Count (MeetsAt t a r) (i + 1) both × Count (ApartAt t a r) (i + 1) apart
    met_never is = (same (never is) was_both, same (λ x. never is (apart_meets x)) was_apart)
