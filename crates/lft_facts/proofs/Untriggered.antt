-- Rule 8.
use Rattle.std.proofs.Common.{◌≡◌, ℕ, ◌+◌, ◌<◌, ◌≤◌, List, [], ◌∷◌, ◌++◌, length, refl, sym, ap, ◌∙◌, subst, arith, Some, slice_get, Contains}
use native.Mathlib.Decide.{ℕ_discrete}
use Rattle.std.proofs.lemmas.List.Elements.{All-push, All-cons, All-nil, Contains-append_left, Contains-push}
use Rattle.lft_lists.proofs.Places.{same_at, contains_at}
use Rattle.lft_tag.specs.declared.Tag.{Tag}
use Rattle.lft_ir.specs.declared.{parts.{Reaction.Reaction, Trigger.Trigger}, steps.row.Row.Row}
use Rattle.lft_model.{specs.{Plans.PlanParts, Presence.Triggered}, proofs.Places.slice_get_within}
use Rattle.lft_facts.specs.{declared.facts.Fact.Fact, Facts.{IsFact, AreFacts}, inner.Enough.{Gives, AreOwnAt}, Enough.IsOwn}
use Rattle.lft_facts.proofs.Giving.{not_triggered_gives}
use Rattle.lft_races.specs.Runs.{StartsAt}
use Rattle.lft_facts.specs.declared.facts.Fact.TheVariants as fact

-- the facts of rule 8, with the triggers at the places below one
pub record Untold (plan : PlanParts) (t : List Row) (g : Tag) (r start : ℕ) (triggers : List Trigger) (place : ℕ) (facts : List Fact) : Type 0 where
  pub holds : AreFacts plan t facts
  pub runs : Contains facts (fact.Runs g r start)
  pub counts : Contains facts (fact.TriggerCount r (length triggers))
  pub each : (k : ℕ) (x : Trigger) → k < place → slice_get triggers k ≡ Some x → Contains facts (fact.Untriggered g r k x)
  pub own : AreOwnAt g (Some r) facts

module _ (plan : PlanParts) (t : List Row) (g : Tag) (r start : ℕ) (x : Reaction) (is_reaction : slice_get plan.program.reactions r ≡ Some x) (xs : List Trigger) (are : xs ≡ x.triggers) where
  pub untold_begin : (count : ℕ) (facts : List Fact) → count ≡ length xs → facts ≡ fact.Runs g r start ∷ fact.TriggerCount r count ∷ [] → StartsAt t g r start → Untold plan t g r start xs 0 facts
  untold_begin count facts same is starts = subst (λ (fs : List Fact). Untold plan t g r start xs 0 fs) (sym (is ∙ ap (λ n. fact.Runs g r start ∷ fact.TriggerCount r n ∷ []) same)) (record {
    holds = All-cons (IsFact plan t) (fact.Runs g r start) (fact.TriggerCount r (length xs) ∷ []) starts (All-cons (IsFact plan t) (fact.TriggerCount r (length xs)) [] (record { reaction = x; is_reaction = is_reaction; as_many = ap length (sym are) }) (All-nil (IsFact plan t)));
    runs = (0, omega arith, refl);
    counts = (1, omega arith, refl);
    each = λ k y l. absurd (omega arith);
    own = λ b p q. All-cons (IsOwn b) (fact.Runs g r start) (fact.TriggerCount r (length xs) ∷ []) (p, q) (All-cons (IsOwn b) (fact.TriggerCount r (length xs)) [] q (All-nil (IsOwn b)));
  })

  pub untold_more : ¬ Triggered plan t g r → (place : ℕ) (facts new : List Fact) (y : Trigger) → Untold plan t g r start xs place facts → slice_get xs place ≡ Some y → new ≡ facts ++ fact.Untriggered g r place y ∷ [] → Untold plan t g r start xs (place + 1) new
  untold_more none place facts new y so_far e is = subst (λ (fs : List Fact). Untold plan t g r start xs (place + 1) fs) (sym is) (record {
    holds = All-push (IsFact plan t) facts (fact.Untriggered g r place y) so_far.holds (record { reaction = x; is_reaction = is_reaction; is_trigger = its; absent = λ o. none (record { reaction = x; trigger = y; is_reaction = is_reaction; is_trigger = contains_at x.triggers place y its; occurs = o }) });
    runs = Contains-append_left facts (fact.Untriggered g r place y ∷ []) (fact.Runs g r start) so_far.runs;
    counts = Contains-append_left facts (fact.Untriggered g r place y ∷ []) (fact.TriggerCount r (length xs)) so_far.counts;
    each = each;
    own = λ b p q. All-push (IsOwn b) facts (fact.Untriggered g r place y) (so_far.own b p q) (p, q);
  })
    where
      its : slice_get x.triggers place ≡ Some y
      its = ap (λ (ys : List Trigger). slice_get ys place) (sym are) ∙ e

      each : (k : ℕ) (z : Trigger) → k < place + 1 → slice_get xs k ≡ Some z → Contains (facts ++ fact.Untriggered g r place y ∷ []) (fact.Untriggered g r k z)
      each k z l a = go (ℕ_discrete k place)
        where
          go : Dec (k ≡ place) → Contains (facts ++ fact.Untriggered g r place y ∷ []) (fact.Untriggered g r k z)
          go (yes s) =
              let q : z ≡ y = same_at xs k place z y a e s in
              let p : fact.Untriggered g r place y ≡ fact.Untriggered g r k z = cc in
              subst (λ (f : Fact). Contains (facts ++ fact.Untriggered g r place y ∷ []) f) p (Contains-push facts (fact.Untriggered g r place y))
          go (no s) = Contains-append_left facts (fact.Untriggered g r place y ∷ []) (fact.Untriggered g r k z) (so_far.each k z (omega arith) a)

  pub untold_gives : (place : ℕ) (facts : List Fact) → length xs ≤ place → Untold plan t g r start xs place facts → Gives facts g (Some r) 8
  untold_gives place facts l told = not_triggered_gives g r start xs facts told.runs told.counts (λ k y e. told.each k y (let m : k < length xs = slice_get_within xs k y e in omega arith) e)
