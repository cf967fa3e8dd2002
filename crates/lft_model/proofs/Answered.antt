-- What a run answers its effects may have, by rule 4.
use Rattle.std.proofs.Common.{◌≡◌, ℕ, ◌⊎◌, inl, inr, List, [], ◌∷◌, map, refl, sym, ◌∙◌, subst, Bool, true, false, filter_map, lit<}
use Rattle.std.specs.List.{AllZip}
use Rattle.lft_tag.specs.declared.Tag.{Tag}
use Rattle.lft_lists.proofs.Members.{Mem, mem_from_filter, mem_contains, contains_mem}
use Rattle.lft_ir.specs.declared.{parts.{Value.Value, Name.{Name, TheVariants.{Port, Action}}}, steps.row.{Row.Row, Step.{Step, TheVariants.Schedule}}}
use Rattle.lft_model.specs.{Plans.PlanParts, Presence.value_scheduled, Runs.{steps_of, outcome_of, effects_of, answer_at}, Breaches.{IsUndeclared, MaySchedule}}
use Rattle.lft_model.specs.OneWorker.{MayHave}
use Rattle.lft_model.proofs.{Places.{stable, dec_map, dec_both}, Legality.{KeepsFour, keeps_four}, Steps.{RowOf, step_mem, scheduled_some}, Kept.dec_mem}
use Rattle.lft_model.proofs.Decided.{dec_item}

module _ (plan : PlanParts) (t : List Row) (well : KeepsFour plan t) where
  -- whether a reaction may schedule an action
  dec_may : (r a : ℕ) → Dec (MaySchedule plan.program r (Action a))
  dec_may r a = dec_map (λ q. (mem_contains (Action a) (effects_of plan.program r) q.0, q.1)) (λ q. (contains_mem (Action a) (effects_of plan.program r) q.0, q.1)) (dec_both (dec_mem (Action a) (effects_of plan.program r)) (dec_item plan.program.actions (λ x. x.physical ≡ false) (λ x. dec_false x.physical) a))
    where
      dec_false : (b : Bool) → Dec (b ≡ false)
      dec_false true = no (λ e. cc)
      dec_false false = yes refl

  -- what the steps of a run make of a name is an outcome that the name may have
  may_have : (g : Tag) (r : ℕ) (n : Name) → MayHave plan r n (outcome_of (steps_of t g r) n)
  may_have g r (Port p) = tt
  may_have g r (Action a) = go (filter_map (value_scheduled a) (steps_of t g r)) (λ x m. found x m)
    where
      found : (x : ℕ × Value) → Mem x (filter_map (value_scheduled a) (steps_of t g r)) → MaySchedule plan.program r (Action a)
      found x m =
          let s = mem_from_filter (value_scheduled a) (steps_of t g r) x m in
          let o : RowOf t g r s.0 = step_mem t g r s.0 s.1 in
          let e : o.row.step ≡ Schedule (Action a) x.1 x.0 = o.step_is ∙ scheduled_some a s.0 x s.2 in
          let k : MaySchedule plan.program o.row.reaction (Action a) = stable (dec_may o.row.reaction a) (λ n. keeps_four plan t well o.place o.row 4 (lit< tt) o.is_row (inr (inr (inr (inl (refl, subst (λ (z : Step). IsUndeclared plan.program t o.place o.row z) (sym e) n)))))) in
          subst (λ (c : ℕ). MaySchedule plan.program c (Action a)) o.reaction_is k

      go : (xs : List (ℕ × Value)) → ((x : ℕ × Value) → Mem x xs → MaySchedule plan.program r (Action a)) → (xs ≡ []) ⊎ MaySchedule plan.program r (Action a)
      go [] f = inl refl
      go (x ∷ xs) f = inr (f x (inl refl))

  -- the answer of a run has an outcome for each effect that the effect may have
  pub answers_well : (g : Tag) (r : ℕ) → AllZip (MayHave plan r) (effects_of plan.program r) (answer_at plan t g r).outcomes
  answers_well g r = each (effects_of plan.program r)
    where
      each : (ns : List Name) → AllZip (MayHave plan r) ns (map (outcome_of (steps_of t g r)) ns)
      each [] = tt
      each (n ∷ ns) = (may_have g r n, each ns)
