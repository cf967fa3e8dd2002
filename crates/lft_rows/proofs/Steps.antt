-- One row more, and what the code asks of the open runs.
use Rattle.std.proofs.Common.{◌≡◌, ℕ, ◌+◌, ◌≤◌, ◌⊎◌, inr, is_some, List, refl, sym, ap, ◌∙◌, subst, Option, Some, None, slice_get, cond, true, false, Bool, ◌==◌, ne_eqb, not}
use Rattle.std.proofs.lemmas.Bool.{eq-eqb, false≢true}
use native.Mathlib.Decide.{ℕ_discrete}
use Rattle.lft_tag.{specs.{declared.Tag.Tag, Tags.same_tag}, proofs.Order.{same_tag_refl, same_tag_true}}
use Rattle.lft_ir.specs.declared.steps.row.{Row.Row, Step.{Step, TheVariants.{Start, End}}}
use Rattle.lft_model.{specs.{Runs.{start_row, end_row}, Breaches.{IsOpen, IsOutOfOrder, WasStarted}}, proofs.OutOfOrder.{out_inner, inner_out}}
use Rattle.lft_rows.specs.{declared.open.OpenRuns.OpenRuns, inner.{Places.place_of, Passes.{OpenPlace, Holds, HasOpen}}}
use Rattle.lft_rows.proofs.{PresenceLemmas.Lists.not_true, Opens.{keeps_open, ends_open, open_kept, none_open, same_start}}

pub at_kept : (t : List Row) (p i w : ℕ) (o : Option ℕ) (s : ℕ) → OpenPlace t p i w o → o ≡ Some s → OpenPlace t p i w (Some s)
at_kept t p i w o s h e = subst (λ z. OpenPlace t p i w z) e h

row_by : (w : ℕ) (g : Tag) (r : ℕ) {s z : Step} → s ≡ z → (let x : Row = record { worker = w; tag = g; reaction = r; step = s } in let y : Row = record { worker = w; tag = g; reaction = r; step = z } in x ≡ y)
row_by w g r e = cc

pub row_eq : (row : Row) (s : Step) → row.step ≡ s → row ≡ record { worker = row.worker; tag = row.tag; reaction = row.reaction; step = s }
row_eq row s e = row_by row.worker row.tag row.reaction e

module _ (t : List Row) (p i : ℕ) (row : Row) (is_row : slice_get t i ≡ Some row) where
  end_parts : (w : ℕ) (g : Tag) (r : ℕ) → slice_get t i ≡ Some (end_row w g r) → (row.step ≡ End) × (row.worker ≡ w) × (row.tag ≡ g) × (row.reaction ≡ r)
  end_parts w g r e = let a : Some row ≡ Some (end_row w g r) = sym is_row ∙ e in let b : row ≡ end_row w g r = cc in (ap (λ (z : Row). z.step) b, ap (λ (z : Row). z.worker) b, ap (λ (z : Row). z.tag) b, ap (λ (z : Row). z.reaction) b)

  pub close_then : (old new : OpenRuns) → p ≤ i → row.step ≡ End → HasOpen t old row → Holds t p i old → ((w : ℕ) → place_of new w ≡ cond (row.worker == w) None (place_of old w)) → Holds t p (i + 1) new
  close_then old new le en has h q w = go (ℕ_discrete row.worker w)
    where
      ended : OpenPlace t p (i + 1) row.worker None
      ended = ends_open t p i row.worker has.0 row.tag row.reaction le (at_kept t p i row.worker (place_of old row.worker) has.0 (h row.worker) has.1) has.2 (is_row ∙ ap Some (row_eq row End en))

      go : Dec (row.worker ≡ w) → OpenPlace t p (i + 1) w (place_of new w)
      go (yes e) = let a : place_of new w ≡ None = q w ∙ ap (λ b. cond b None (place_of old w)) (eq-eqb row.worker w e) in subst (λ z. OpenPlace t p (i + 1) w z) (sym a) (subst (λ z. OpenPlace t p (i + 1) z None) e ended)
      go (no n) = let a : place_of new w ≡ place_of old w = q w ∙ ap (λ b. cond b None (place_of old w)) (ne_eqb row.worker w n) in subst (λ z. OpenPlace t p (i + 1) w z) (sym a) (keeps_open t p i w (place_of old w) (h w) (λ s g r x y z. n (end_parts w g r z).1))

  pub close_else : (old : OpenRuns) → (row.step ≡ End → ¬ HasOpen t old row) → Holds t p i old → Holds t p (i + 1) old
  close_else old n h w = keeps_open t p i w (place_of old w) (h w) (λ s g r x y z. out s g r x y (end_parts w g r z))
    where
      out : (s : ℕ) (g : Tag) (r : ℕ) → place_of old w ≡ Some s → slice_get t s ≡ Some (start_row w g r) → (row.step ≡ End) × (row.worker ≡ w) × (row.tag ≡ g) × (row.reaction ≡ r) → ⊥
      out s g r x y z = n z.0 (s, ap (λ v. place_of old v) z.1 ∙ x, y ∙ ap Some (same z.1 z.2 z.3))
        where
          same : row.worker ≡ w → row.tag ≡ g → row.reaction ≡ r → start_row w g r ≡ start_row row.worker row.tag row.reaction
          same a b c = cc

pub out_start : (t : List Row) (i : ℕ) (row : Row) (s : Step) → s ≡ Start → WasStarted t i row.tag row.reaction ⊎ ((g : Tag) × (r : ℕ) × IsOpen t i row.worker g r) → IsOutOfOrder t i row s
out_start t i row s e o = subst (λ z. IsOutOfOrder t i row z) (sym e) o

-- the row's run is open where it is the kept one
pub open_has : (t : List Row) (i : ℕ) (row : Row) (runs : OpenRuns) → Holds t i i runs → HasOpen t runs row → IsOpen t i row.worker row.tag row.reaction
open_has t i row runs h has =
    let k : OpenPlace t i i row.worker (Some has.0) = at_kept t i i row.worker (place_of runs row.worker) has.0 (h row.worker) has.1 in
    let e : Some (start_row row.worker k.tag k.reaction) ≡ Some (start_row row.worker row.tag row.reaction) = sym k.unended.starts ∙ has.2 in
    let x : end_row row.worker k.tag k.reaction ≡ end_row row.worker row.tag row.reaction = same_start row.worker k.tag row.tag k.reaction row.reaction e in
    record { start = has.0; before = k.before; starts = has.2; not_ended = λ j a b q. k.unended.not_ended j a b (q ∙ ap Some (sym x)) }

pub has_open_run : (t : List Row) (i : ℕ) (row : Row) (runs : OpenRuns) → Holds t i i runs → IsOpen t i row.worker row.tag row.reaction → HasOpen t runs row
has_open_run t i row runs h o = go (place_of runs row.worker) refl
  where
    go : (p : Option ℕ) → place_of runs row.worker ≡ p → HasOpen t runs row
    go None e = absurd (none_open t i row.worker (subst (λ z. OpenPlace t i i row.worker z) e (h row.worker)) row.tag row.reaction o)
    go (Some s) e = (s, e, open_kept t i row.worker s row.tag row.reaction (at_kept t i i row.worker (place_of runs row.worker) s (h row.worker) e) o)

-- a row that is no start row and breaks no rule is of its worker's open run
pub is_inside : (t : List Row) (i : ℕ) (row : Row) (runs : OpenRuns) → Holds t i i runs → ¬ (row.step ≡ Start) → ¬ IsOutOfOrder t i row row.step → HasOpen t runs row
is_inside t i row runs h n kept = go (place_of runs row.worker) refl
  where
    -- its run is open, unless that can't be
    not_closed : ¬ ¬ IsOpen t i row.worker row.tag row.reaction
    not_closed o = kept (out_inner t i row row.step n o)

    go : (p : Option ℕ) → place_of runs row.worker ≡ p → HasOpen t runs row
    go None e = absurd (not_closed (none_open t i row.worker (subst (λ z. OpenPlace t i i row.worker z) e (h row.worker)) row.tag row.reaction))
    go (Some s) e = of_tag (same_tag k.tag row.tag) refl (ℕ_discrete k.reaction row.reaction)
      where
        k : OpenPlace t i i row.worker (Some s)
        k = at_kept t i i row.worker (place_of runs row.worker) s (h row.worker) e

        same : IsOpen t i row.worker row.tag row.reaction → end_row row.worker k.tag k.reaction ≡ end_row row.worker row.tag row.reaction
        same o = same_start row.worker k.tag row.tag k.reaction row.reaction (sym k.unended.starts ∙ open_kept t i row.worker s row.tag row.reaction k o)

        of_tag : (b : Bool) → same_tag k.tag row.tag ≡ b → Dec (k.reaction ≡ row.reaction) → HasOpen t runs row
        of_tag false f d = absurd (not_closed (λ o. false≢true (sym f ∙ same_tag_refl k.tag row.tag (ap (λ (z : Row). z.tag) (same o)))))
        of_tag true f (no m) = absurd (not_closed (λ o. m (ap (λ (z : Row). z.reaction) (same o))))
        of_tag true f (yes q) = (s, e, k.unended.starts ∙ ap Some (both (same_tag_true k.tag row.tag f) q))
          where
            both : k.tag ≡ row.tag → k.reaction ≡ row.reaction → start_row row.worker k.tag k.reaction ≡ start_row row.worker row.tag row.reaction
            both a b = cc

-- rule 3 at a row that is no start row, by the test
pub order_inner : (t : List Row) (i : ℕ) (row : Row) (runs : OpenRuns) (b : Bool) → Holds t i i runs → ¬ (row.step ≡ Start) → (b ≡ true → HasOpen t runs row) × (HasOpen t runs row → b ≡ true) → (not b ≡ true → IsOutOfOrder t i row row.step) × (IsOutOfOrder t i row row.step → not b ≡ true)
order_inner t i row runs true h n d = (λ e. not_true e, λ o. absurd (inner_out t i row row.step n o (open_has t i row runs h (d.0 refl))))
order_inner t i row runs false h n d = (λ e. out_inner t i row row.step n (λ o. not_true (d.1 (has_open_run t i row runs h o))), λ o. refl)

-- a worker that has an open run can't start another
pub order_open : (t : List Row) (i : ℕ) (row : Row) (runs : OpenRuns) (o : Option ℕ) → Holds t i i runs → o ≡ place_of runs row.worker → row.step ≡ Start → is_some o ≡ true → IsOutOfOrder t i row row.step
order_open t i row runs o held e st some = go o e some
  where
    go : (o : Option ℕ) → o ≡ place_of runs row.worker → is_some o ≡ true → IsOutOfOrder t i row row.step
    go None q s = not_true s
    go (Some s) q z = let k = at_kept t i i row.worker (place_of runs row.worker) s (held row.worker) (sym q) in out_start t i row row.step st (inr (k.tag, k.reaction, record { start = s; before = k.before; starts = k.unended.starts; not_ended = k.unended.not_ended }))
