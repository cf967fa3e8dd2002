-- The stop of the rows once a run has ended.
use Rattle.std.proofs.Common.{◌≡◌, ℕ, ◌⊎◌, inl, inr, List, [], ◌∷◌, ◌++◌, refl, sym, ap, ◌∙◌, subst, Some}
use Rattle.lft_tag.{specs.{declared.Tag.Tag, Tags.{Before, UpTo, after}}, proofs.Order.{UpTo-not, UpTo_antisym, order_cases}}
use Rattle.lft_lists.proofs.Members.{Mem, mem_get, get_mem, mem_cases, mem_left, mem_right, mem_map, mem_from_map}
use Rattle.lft_ir.specs.declared.steps.row.{Row.Row, Step.{Step, TheVariants.{Stop, End}}}
use Rattle.lft_model.specs.{Plans.PlanParts, Presence.{requests, stop}, Recorded.{run_row, committed_rows}}
use Rattle.lft_model.proofs.Stops.{ask, asker, stop_asked, stop_append, stop_added}
use Rattle.lft_scheduler.specs.inner.Agendas.{AsksStop}

module _ (plan : PlanParts) (t : List Row) (w : ℕ) (g : Tag) (r : ℕ) (steps : List Step) where
  -- the stop is the old one, or one that the new rows ask for
  cases : (stop plan (t ++ committed_rows w g r steps) ≡ stop plan t) ⊎ (AsksStop steps × (after g 0 ≡ stop plan (t ++ committed_rows w g r steps)))
  cases = go (stop_added plan t (committed_rows w g r steps))
    where
      asks : (s : Step) → s ≡ Stop → Mem s steps ⊎ Mem s (End ∷ []) → AsksStop steps
      asks s e (inl m) = let p = get_mem s steps m in (p.0, p.1 ∙ ap Some e)
      asks s e (inr (inl q)) = let z : End ≡ Stop = q ∙ e in absurd (cc)
      asks s e (inr (inr m)) = absurd m

      go : (stop plan (t ++ committed_rows w g r steps) ≡ stop plan t) ⊎ Mem (stop plan (t ++ committed_rows w g r steps)) (requests (committed_rows w g r steps)) → (stop plan (t ++ committed_rows w g r steps) ≡ stop plan t) ⊎ (AsksStop steps × (after g 0 ≡ stop plan (t ++ committed_rows w g r steps)))
      go (inl e) = inl e
      go (inr m) =
          let a = asker (committed_rows w g r steps) (stop plan (t ++ committed_rows w g r steps)) m in
          let f = mem_from_map (run_row w g r) (steps ++ End ∷ []) a.0 a.1 in
          inr (asks f.0 (ap (λ (x : Row). x.step) f.2 ∙ a.2) (mem_cases f.0 steps (End ∷ []) f.1), ap (λ (x : Row). after x.tag 0) f.2 ∙ a.3)

  pub stop_now : AsksStop steps → Before (after g 0) (stop plan t) → after g 0 ≡ stop plan (t ++ committed_rows w g r steps)
  stop_now asks b = go cases
    where
      its : Mem (run_row w g r Stop) (committed_rows w g r steps)
      its = mem_map (run_row w g r) Stop (steps ++ End ∷ []) (mem_left Stop steps (End ∷ []) (mem_get steps asks.0 Stop asks.1))

      early : UpTo (stop plan (t ++ committed_rows w g r steps)) (after g 0)
      early = stop_asked plan (t ++ committed_rows w g r steps) (after g 0) (ask (t ++ committed_rows w g r steps) (run_row w g r Stop) (mem_right (run_row w g r Stop) t (committed_rows w g r steps) its) refl)

      go : (stop plan (t ++ committed_rows w g r steps) ≡ stop plan t) ⊎ (AsksStop steps × (after g 0 ≡ stop plan (t ++ committed_rows w g r steps))) → after g 0 ≡ stop plan (t ++ committed_rows w g r steps)
      go (inl e) = absurd (UpTo-not (stop plan t) (after g 0) (subst (λ (k : Tag). UpTo k (after g 0)) e early) b)
      go (inr p) = p.1

  pub stop_late : ¬ Before (after g 0) (stop plan t) → stop plan t ≡ stop plan (t ++ committed_rows w g r steps)
  stop_late n = go cases (order_cases (after g 0) (stop plan t))
    where
      go : (stop plan (t ++ committed_rows w g r steps) ≡ stop plan t) ⊎ (AsksStop steps × (after g 0 ≡ stop plan (t ++ committed_rows w g r steps))) → Before (after g 0) (stop plan t) ⊎ UpTo (stop plan t) (after g 0) → stop plan t ≡ stop plan (t ++ committed_rows w g r steps)
      go (inl e) o = sym e
      go (inr p) (inl b) = absurd (n b)
      go (inr p) (inr u) = UpTo_antisym (stop plan t) (stop plan (t ++ committed_rows w g r steps)) (subst (λ (k : Tag). UpTo (stop plan t) k) p.1 u) (stop_append plan t (committed_rows w g r steps))

  pub stop_unasked : ¬ AsksStop steps → stop plan t ≡ stop plan (t ++ committed_rows w g r steps)
  stop_unasked n = go cases
    where
      go : (stop plan (t ++ committed_rows w g r steps) ≡ stop plan t) ⊎ (AsksStop steps × (after g 0 ≡ stop plan (t ++ committed_rows w g r steps))) → stop plan t ≡ stop plan (t ++ committed_rows w g r steps)
      go (inl e) = sym e
      go (inr p) = absurd (n p.0)
