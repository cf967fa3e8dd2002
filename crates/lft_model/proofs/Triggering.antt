-- Whether a reaction is triggered, by its list of triggers.
use Rattle.std.proofs.Common.{◌≡◌, ◌↔◌, ℕ, ◌<◌, List, length, refl, sym, ap, ◌∙◌, subst, Some, slice_get, get_or, Contains, IsTrue, false, true}
use Rattle.std.proofs.lemmas.{Bool.false≢true, List.Elements.Contains-get_or, Option.get_or_from_slice_get}
use Rattle.lft_tag.specs.declared.Tag.{Tag}
use Rattle.lft_lists.proofs.Members.{get_mem, contains_mem}
use Rattle.lft_ir.specs.{Parts.Parts, Sound.{IsSound, IsTriggerOf, IsNameOf}}
use Rattle.lft_ir.specs.declared.{parts.{Reaction.Reaction, Name.Name, Trigger.Trigger}, steps.row.Row.Row}
use Rattle.lft_model.{specs.{Plans.PlanParts, Presence.{stop, OccursUntil, TriggeredUntil, Triggered}}, proofs.Places.slice_get_within}

-- the triggers and uses of a reaction are of its program
module _ (program own : Parts) (same : program ≡ own) (sound : IsSound program) (r : ℕ) (x : Reaction) (is_reaction : slice_get program.reactions r ≡ Some x) where
  -- a trigger
  pub trigger_known : (xs : List Trigger) → xs ≡ x.triggers → (k : ℕ) (d : Trigger) → k < length xs → IsTriggerOf own (get_or xs k d)
  trigger_known xs are k d l = subst (λ z. IsTriggerOf z (get_or xs k d)) same ((sound.exist r x is_reaction).triggers (get_or xs k d) (subst (λ ys. Contains ys (get_or xs k d)) are (Contains-get_or xs k d l)))

  -- a use
  pub use_known : (ns : List Name) → ns ≡ x.uses → (k : ℕ) (d : Name) → k < length ns → IsNameOf own (get_or ns k d)
  use_known ns are k d l = subst (λ z. IsNameOf z (get_or ns k d)) same ((sound.exist r x is_reaction).uses (get_or ns k d) (subst (λ ms. Contains ms (get_or ns k d)) are (Contains-get_or ns k d l)))

-- a reaction of a program that is the plan's, its triggers, rows that are those of the trace, and the stop
module _ (plan : PlanParts) (s t : List Row) (same : s ≡ t) (last : Tag) (is_last : last ≡ stop plan s) (g : Tag) (r : ℕ) (program : Parts) (is_program : program ≡ plan.program) (x : Reaction) (is_reaction : slice_get program.reactions r ≡ Some x) (xs : List Trigger) (are : xs ≡ x.triggers) where
  -- it is the plan's reaction of this number
  is_own : slice_get plan.program.reactions r ≡ Some x
  is_own = subst (λ (z : Parts). slice_get z.reactions r ≡ Some x) is_program is_reaction

  -- a trigger that is present triggers the reaction
  pub triggered_by : (k : ℕ) (d : Trigger) → k < length xs → OccursUntil last plan s g (get_or xs k d) → IsTrue true ↔ Triggered plan t g r
  triggered_by k d l o = (λ _. subst (λ z. Triggered plan z g r) same (subst (λ h. TriggeredUntil h plan s g r) is_last (record { reaction = x; trigger = get_or xs k d; is_reaction = is_own; is_trigger = subst (λ ys. Contains ys (get_or xs k d)) are (Contains-get_or xs k d l); occurs = o })), λ _. refl)

  -- where no trigger is present the reaction isn't triggered
  pub not_triggered : (d : Trigger) → ((k : ℕ) → k < length xs → ¬ OccursUntil last plan s g (get_or xs k d)) → IsTrue false ↔ Triggered plan t g r
  not_triggered d none = (λ e. absurd (false≢true e), λ o. absurd (refute (subst (λ h. TriggeredUntil h plan s g r) (sym is_last) (subst (λ z. Triggered plan z g r) (sym same) o))))
    where
      refute : ¬ TriggeredUntil last plan s g r
      refute o =
          let y : Some o.reaction ≡ Some x = sym o.is_reaction ∙ is_own in
          let z : o.reaction ≡ x = cc in
          let c : Contains xs o.trigger = subst (λ ys. Contains ys o.trigger) (ap (λ (v : Reaction). v.triggers) z ∙ sym are) o.is_trigger in
          let p = get_mem o.trigger xs (contains_mem o.trigger xs c) in
          none p.0 (slice_get_within xs p.0 o.trigger p.1) (subst (λ z. OccursUntil last plan s g z) (sym (get_or_from_slice_get xs p.0 o.trigger d p.1)) o.occurs)
