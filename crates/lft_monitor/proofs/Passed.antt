-- Tags that no row is past.
use Rattle.std.proofs.Common.{◌≡◌, ℕ, ◌+◌, ◌⊎◌, inl, inr, List, [], ◌∷◌, length, refl, sym, ap, ◌∙◌, subst, Option, Some, None, slice_get, ⊎_elim}
use Rattle.lft_tag.{specs.{declared.Tag.Tag, Tags.{Before, UpTo}}, proofs.Order.{Before-irrefl, Before-trans, Before-UpTo, UpTo-not, from_first, order_cases}}
use Rattle.lft_lists.proofs.Places.{get_right, get_last, get_append_cases}
use Rattle.lft_ir.specs.declared.steps.row.Row.{Row}
use Rattle.lft_model.specs.{Plans.PlanParts, Runs.{Ran, start_row}}
use Rattle.lft_queue.specs.Coming.AtTag.{AreAt, AreBefore}
use Rattle.lft_stream.specs.Kept.{low_of}
use Rattle.lft_monitor.specs.{Reach.{IsLastOf, IsReach}, inner.Follows.{IsFollowerOf, done_of, held_of}, Follows.IsPassed}
use Rattle.lft_monitor.specs.declared.{reach.Reach.Reach, follower.Follower.Follower}
use Rattle.lft_monitor.proofs.Behind.{after_least}

-- the last tag with a run is before all that is behind the rows
pub reach_up : (t : List Row) (r : Reach) (g : Tag) → IsReach t r → AreBefore t g → UpTo (low_of r.tag) g
reach_up t r g is before = go r.tag is.last
  where
    go : (o : Option Tag) → IsLastOf is.tags o → UpTo (low_of o) g
    go None last = from_first g
    go (Some k) last = after_least k g (before ran.1.place (start_row ran.1.worker k ran.0) ran.1.starts)
      where
        ran : (c : ℕ) × Ran t k c
        ran = is.tags_are.ran (length last.0) k (subst (λ (xs : List Tag). slice_get xs (length last.0) ≡ Some k) (sym last.1) (get_last last.0 k))

module _ (plan : PlanParts) (t : List Row) (f : Follower) (g : Tag) (is : IsFollowerOf plan t f) where
  -- a row at hand that is past the tag is a row
  pub is_passed : (x : Row) → slice_get (held_of f) 0 ≡ Some x → Before g x.tag → IsPassed t g
  is_passed x at b = (length (done_of t f) + 0, x, subst (λ (u : List Row). slice_get u (length (done_of t f) + 0) ≡ Some x) (sym is.parts) (get_right (done_of t f) (held_of f) 0 ∙ at), b)

  module _ (not : (x : Row) → slice_get (held_of f) 0 ≡ Some x → ¬ Before g x.tag) where
    -- where the first row at hand isn't past the tag, none of them is
    pub hand_up : (i : ℕ) (x : Row) → slice_get (held_of f) i ≡ Some x → UpTo x.tag g
    hand_up i x at = go (held_of f) not is.at_one.1 at
      where
        go : (rows : List Row) → ((y : Row) → slice_get rows 0 ≡ Some y → ¬ Before g y.tag) → AreAt rows is.at_one.0 → slice_get rows i ≡ Some x → UpTo x.tag g
        go [] none are e = absurd (let p : None ≡ Some x = e in cc)
        go (y ∷ ys) none are e = subst (λ (k : Tag). UpTo k g) (are 0 y refl ∙ sym (are i x e)) (⊎_elim (λ b. absurd (none y refl b)) (λ u. u) (order_cases g y.tag))

    -- and those that are judged are before it
    pub done_before : AreBefore (done_of t f) g
    done_before = go (held_of f) refl
      where
        go : (rows : List Row) → held_of f ≡ rows → AreBefore (done_of t f) g
        go [] e i x at = let p : Some x ≡ None = sym at ∙ ap (λ (rows : List Row). slice_get rows i) (is.held.some e) in absurd (cc)
        go (y ∷ ys) e i x at = let first : slice_get (held_of f) 0 ≡ Some y = ap (λ (rows : List Row). slice_get rows 0) e in Before-UpTo x.tag y.tag g (is.held.earlier y first i x at) (hand_up 0 y first)

    pub not_passed : ¬ IsPassed t g
    not_passed p = go (get_append_cases (done_of t f) (held_of f) p.0 p.1 (subst (λ (u : List Row). slice_get u p.0 ≡ Some p.1) is.parts p.2))
      where
        go : (slice_get (done_of t f) p.0 ≡ Some p.1) ⊎ ((j : ℕ) × (p.0 ≡ length (done_of t f) + j) × (slice_get (held_of f) j ≡ Some p.1)) → ⊥
        go (inl at) = Before-irrefl g (Before-trans g p.1.tag g p.3 (done_before p.0 p.1 at))
        go (inr (j, q, at)) = UpTo-not p.1.tag g (hand_up j p.1 at) p.3
