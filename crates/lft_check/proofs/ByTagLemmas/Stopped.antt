-- The stop of rows in two parts: the earlier of the stops of the parts.
use Rattle.std.proofs.Common.{◌≡◌, ℕ, ◌+◌, ◌⊎◌, inl, inr, List, ◌++◌, length, take, drop, sym, ap, ◌∙◌, subst, slice_get}
use Rattle.std.proofs.lemmas.List.{take-append-drop}
use Rattle.lft_tag.{specs.{declared.Tag.Tag, Tags.UpTo}, proofs.Order.{UpTo-trans, UpTo_antisym}}
use Rattle.lft_lists.proofs.{Members.{Mem, mem_right}, Places.{get_left, get_right}}
use Rattle.lft_ir.specs.{Parts.Parts, declared.steps.row.Row.Row}
use Rattle.lft_model.specs.{Plans.PlanParts, Fitting.EachFits, Presence.{requests, stop}}
use Rattle.lft_model.proofs.Stops.{ask, asker, stop_append, stop_more, stop_asked, stop_added}

-- what rows of the second part ask for, rows of the whole ask for
asked_behind : (u v : List Row) (h : Tag) → Mem h (requests v) → Mem h (requests (u ++ v))
asked_behind u v h m = let a = asker v h m in subst (λ (k : Tag). Mem k (requests (u ++ v))) a.3 (ask (u ++ v) a.0 (mem_right a.0 u v a.1) a.2)

-- where one of the stops of the parts is up to both, it is the stop of the whole
least_stop : (plan : PlanParts) (u v : List Row) (g : Tag) → (g ≡ stop plan u) ⊎ (g ≡ stop plan v) → UpTo g (stop plan u) → UpTo g (stop plan v) → g ≡ stop plan (u ++ v)
least_stop plan u v g is first second = UpTo_antisym g (stop plan (u ++ v)) (below (stop_added plan u v)) (above is)
  where
    below : (stop plan (u ++ v) ≡ stop plan u) ⊎ Mem (stop plan (u ++ v)) (requests v) → UpTo g (stop plan (u ++ v))
    below (inl e) = subst (λ (k : Tag). UpTo g k) (sym e) first
    below (inr m) = UpTo-trans g (stop plan v) (stop plan (u ++ v)) second (stop_asked plan v (stop plan (u ++ v)) m)

    above : (g ≡ stop plan u) ⊎ (g ≡ stop plan v) → UpTo (stop plan (u ++ v)) g
    above (inl e) = subst (λ (k : Tag). UpTo (stop plan (u ++ v)) k) (sym e) (stop_append plan u v)
    above (inr e) = subst (λ (k : Tag). UpTo (stop plan (u ++ v)) k) (sym e) (stop_more plan v (u ++ v) (asked_behind u v))

-- rows cut at a place are the two parts
module _ (t u v : List Row) (k : ℕ) (front : u ≡ take k t) (back : v ≡ drop k t) where
  parted : t ≡ u ++ v
  parted = sym (take-append-drop k t) ∙ ap (λ (w : List Row). w ++ drop k t) (sym front) ∙ ap (λ (w : List Row). u ++ w) (sym back)

  pub first_fits : (program : Parts) → EachFits program t → EachFits program u
  first_fits program h i row e = h i row (ap (λ (w : List Row). slice_get w i) parted ∙ get_left u v i row e)

  pub second_fits : (program : Parts) → EachFits program t → EachFits program v
  second_fits program h i row e = h (length u + i) row (ap (λ (w : List Row). slice_get w (length u + i)) parted ∙ get_right u v i ∙ e)

  -- the stop of all rows is the earlier of the stops of the parts
  pub stop_of_parts : (plan : PlanParts) (g one other : Tag) → one ≡ stop plan u → other ≡ stop plan v → (g ≡ one) ⊎ (g ≡ other) → UpTo g one → UpTo g other → g ≡ stop plan t
  stop_of_parts plan g one other p q is first second = subst (λ (w : List Row). g ≡ stop plan w) (sym parted) (least_stop plan u v g (either is) (subst (λ (z : Tag). UpTo g z) p first) (subst (λ (z : Tag). UpTo g z) q second))
    where
      either : (g ≡ one) ⊎ (g ≡ other) → (g ≡ stop plan u) ⊎ (g ≡ stop plan v)
      either (inl e) = inl (e ∙ p)
      either (inr e) = inr (e ∙ q)
