-- The nearest events.
use Rattle.std.proofs.Common.{ℕ, List, refl, sym, ◌∙◌, subst, Some}
use Rattle.lft_tag.{specs.{declared.Tag.Tag, Tags.{Before, UpTo}, Shifts.{Folded, shifted}}, proofs.Order.{Before-irrefl, Before-trans, UpTo-not}}
use Rattle.lft_ir.specs.{Sound.IsSound, declared.{parts.{Name.Name, Trigger.TheVariants.On}, steps.row.Row.Row}, Steps.Fits.RowsFit}
use Rattle.lft_model.specs.{Plans.PlanParts, Presence.IsPresent}
use Rattle.lft_rows.specs.{declared.presence.causes.EventCause.EventCause as Event, inner.Presence.{Causes.tag_of, Lookups.{IsLastBefore, IsFirstAfter}}}
use Rattle.lft_rows.proofs.PresenceLemmas.{Positions.shifted_mono, Presences.{present_cause, cause_present}, Lookups.in_order}
use Rattle.lft_facts.specs.{Reasons.IsNearest, inner.Causes.StandsForName}

module _ (plan : PlanParts) (t : List Row) (sound : IsSound plan.program) (fit : RowsFit plan.program t) (g : Tag) (n : Name) (key : ℕ) (s : Folded) (stands : StandsForName plan.program n key s) (c : Event) where
  pub nearest_before : IsLastBefore plan t key s g (Some c) → IsNearest plan t g (On n) (shifted (tag_of c) s)
  nearest_before last = record { present = cause_present plan t sound fit (shifted (tag_of c) s) n key s stands c last.0 (last.1.0, refl); apart = λ e. Before-irrefl g (subst (λ (z : Tag). Before z g) e last.1.1); none_before = none_before; none_after = λ k a b x. Before-irrefl g (Before-trans g k g a (Before-trans k (shifted (tag_of c) s) g b last.1.1)) }
    where
      none_before : (k : Tag) → Before (shifted (tag_of c) s) k → Before k g → ¬ IsPresent plan t k n
      none_before k a b x =
          let d = present_cause plan t sound fit k n key s stands x in
          let up = in_order d.0 c (d.2.0 ∙ sym last.1.0) (last.2 d.0 d.1 (d.2.0, subst (λ (z : Tag). Before z g) (sym d.2.1) b)) in
          UpTo-not k (shifted (tag_of c) s) (subst (λ (z : Tag). UpTo z (shifted (tag_of c) s)) d.2.1 (shifted_mono (tag_of d.0) (tag_of c) s up)) a

  pub nearest_after : IsFirstAfter plan t key s g (Some c) → IsNearest plan t g (On n) (shifted (tag_of c) s)
  nearest_after first = record { present = cause_present plan t sound fit (shifted (tag_of c) s) n key s stands c first.0 (first.1.0, refl); apart = λ e. Before-irrefl g (subst (λ (z : Tag). Before g z) e first.1.1); none_before = λ k a b x. Before-irrefl g (Before-trans g (shifted (tag_of c) s) g first.1.1 (Before-trans (shifted (tag_of c) s) k g a b)); none_after = none_after }
    where
      none_after : (k : Tag) → Before g k → Before k (shifted (tag_of c) s) → ¬ IsPresent plan t k n
      none_after k a b x =
          let d = present_cause plan t sound fit k n key s stands x in
          let up = in_order c d.0 (first.1.0 ∙ sym d.2.0) (first.2 d.0 d.1 (d.2.0, subst (λ (z : Tag). Before g z) (sym d.2.1) a)) in
          UpTo-not (shifted (tag_of c) s) k (subst (λ (z : Tag). UpTo (shifted (tag_of c) s) z) d.2.1 (shifted_mono (tag_of c) (tag_of d.0) s up)) b
