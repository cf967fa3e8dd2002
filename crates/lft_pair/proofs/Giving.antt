-- What contrasts give.
use Rattle.std.proofs.Common.{◌≡◌, ◌≢◌, ℕ, zero, suc, ◌⊎◌, inl, inr, List, [], ◌∷◌, ◌++◌, All, Contains, map, sym, ap, ◌∙◌, refl, subst, Option, Some, is_some, slice_get, option_map, unwrap_or}
use Rattle.std.proofs.lemmas.List.Elements.{All-contains}
use Rattle.lft_lists.proofs.{Members.{Mem, mem_contains, contains_mem}, Mapped.map_same}
use Rattle.lft_tag.specs.declared.Tag.{Tag}
use Rattle.lft_ir.specs.{declared.{parts.{Name.{Name, TheVariants.{Port, Action}}, Reaction.Reaction}, steps.row.{Row.Row, Step.Step}}, Parts.Parts}
use Rattle.lft_model.specs.{Plans.PlanParts, Runs.{Answer, Outcome, answer_at, effects_of, outcome_of, request_of, steps_of, Outcome.{Written, Scheduled}}}
use Rattle.lft_pair.specs.declared.contrasting.contrasts.{Placed.Placed, LastWrite.LastWrite, Scheduling.Scheduling, Contrast.Contrast}
use Rattle.lft_pair.specs.Runs.{placed_steps, last_write, schedulings, first_request}
use Rattle.lft_pair.specs.Contrasts.{IsContrast, AreContrasts, value_of, event, event_of_scheduling}
use Rattle.lft_pair.specs.Enough.{GiveOther, HaveSameOutcome, TellsOf, TellsStop, IsOutcomeTold, IsStopTold, TellsAnswers, steps, TellsAll, TellsReads}
use Rattle.lft_pair.specs.inner.Enough.{IsOfEffect, Adds}
use Rattle.lft_pair.proofs.{Placing.placed_are, Outcomes.{write_outcome, schedule_outcome, request_outcome}}
use Rattle.lft_pair.proofs.Added.{adds_keeps, adds_one, adds_holds, last_contained}
use Rattle.lft_pair.specs.declared.contrasting.contrasts.Contrast.TheVariants as contrast

event_at : (xs : List Scheduling) (k : ℕ) → event_of_scheduling (slice_get xs k) ≡ slice_get (map event xs) k
event_at [] k = refl
event_at (x ∷ xs) zero = refl
event_at (x ∷ xs) (suc k) = event_at xs k

-- two runs that answer alike show no contrast
module _ (plan : PlanParts) (t s : List Row) (g : Tag) (r : ℕ) (alike : answer_at plan t g r ≡ answer_at plan s g r) where
  outcomes : map (outcome_of (steps_of t g r)) (effects_of plan.program r) ≡ map (outcome_of (steps_of s g r)) (effects_of plan.program r)
  outcomes = ap (λ (a : Answer). a.outcomes) alike

  same_outcome : (n : Name) → Contains (effects_of plan.program r) n → HaveSameOutcome (placed_steps t g r) (placed_steps s g r) n
  same_outcome n c = ap (λ (ss : List Step). outcome_of ss n) (placed_are t g r) ∙ map_same (outcome_of (steps_of t g r)) (outcome_of (steps_of s g r)) (effects_of plan.program r) n outcomes (contains_mem n (effects_of plan.program r) c) ∙ sym (ap (λ (ss : List Step). outcome_of ss n) (placed_are s g r))

  not_written : (p : ℕ) (first second : Option LastWrite) → ¬ IsContrast plan t s g r (contrast.Written p first second)
  not_written p first second x =
      let e : Written (value_of (last_write (placed_steps t g r) p)) ≡ Written (value_of (last_write (placed_steps s g r) p)) = sym (write_outcome (placed_steps t g r) p) ∙ same_outcome (Port p) x.0 ∙ write_outcome (placed_steps s g r) p in
      let q : value_of (last_write (placed_steps t g r) p) ≡ value_of (last_write (placed_steps s g r) p) = cc in
      x.1.other (ap value_of x.1.first_is ∙ q ∙ sym (ap value_of x.1.second_is))

  not_scheduled : (a k : ℕ) (first second : Option Scheduling) → ¬ IsContrast plan t s g r (contrast.Scheduled a k first second)
  not_scheduled a k first second x =
      let mine = schedulings (placed_steps t g r) a in
      let theirs = schedulings (placed_steps s g r) a in
      let e : Scheduled (map event mine) ≡ Scheduled (map event theirs) = sym (schedule_outcome (placed_steps t g r) a) ∙ same_outcome (Action a) x.0 ∙ schedule_outcome (placed_steps s g r) a in
      let q : map event mine ≡ map event theirs = cc in
      x.1.other (ap event_of_scheduling x.1.first_is ∙ event_at mine k ∙ ap (λ l. slice_get l k) q ∙ sym (event_at theirs k) ∙ sym (ap event_of_scheduling x.1.second_is))

  not_requested : (first second : Option ℕ) → ¬ IsContrast plan t s g r (contrast.Requested first second)
  not_requested first second x =
      let q : request_of (steps_of t g r) ≡ request_of (steps_of s g r) = ap (λ (a : Answer). a.stops) alike in
      let e : is_some (first_request (placed_steps t g r)) ≡ is_some (first_request (placed_steps s g r)) = sym (request_outcome (placed_steps t g r)) ∙ ap request_of (placed_are t g r) ∙ q ∙ sym (ap request_of (placed_are s g r)) ∙ request_outcome (placed_steps s g r) in
      x.other (ap is_some x.first_is ∙ e ∙ sym (ap is_some x.second_is))

-- a contrast of an effect, or of a stop request, gives an unequal answer
gives_effect : (told : List Contrast) (g : Tag) (r : ℕ) (mine theirs : List Placed) (n : Name) (c : Contrast) → Contains told c → TellsOf mine theirs n c → GiveOther told g r
gives_effect told g r mine theirs (Port p) c m x plan t s all alike = not_written plan t s g r alike p x.0 x.1 (subst (λ (d : Contrast). IsContrast plan t s g r d) x.2 (All-contains (IsContrast plan t s g r) told c all m))
gives_effect told g r mine theirs (Action a) c m x plan t s all alike = not_scheduled plan t s g r alike a x.0 x.1 x.2 (subst (λ (d : Contrast). IsContrast plan t s g r d) x.3 (All-contains (IsContrast plan t s g r) told c all m))

gives_stop : (told : List Contrast) (g : Tag) (r : ℕ) (mine theirs : List Placed) (c : Contrast) → Contains told c → TellsStop mine theirs c → GiveOther told g r
gives_stop told g r mine theirs c m x plan t s all alike = not_requested plan t s g r alike x.0 x.1 (subst (λ (d : Contrast). IsContrast plan t s g r d) x.2 (All-contains (IsContrast plan t s g r) told c all m))

-- where nothing is left out and the answers aren't equal, something is told
pub told_gives : (plan : PlanParts) (t s : List Row) (g : Tag) (r : ℕ) (told : List Contrast) → answer_at plan t g r ≢ answer_at plan s g r → TellsAnswers plan t s g r told → GiveOther told g r
told_gives plan t s g r told other tells = go (search_in (effects_of plan.program r) (λ n m. tells.effects n (mem_contains n (effects_of plan.program r) m))) tells.stop
  where
    mine : List Placed
    mine = placed_steps t g r

    theirs : List Placed
    theirs = placed_steps s g r

    first_of : (n : Name) (ns : List Name) → IsOutcomeTold mine theirs told n → (map (outcome_of (steps mine)) ns ≡ map (outcome_of (steps theirs)) ns) ⊎ GiveOther told g r → (map (outcome_of (steps mine)) (n ∷ ns) ≡ map (outcome_of (steps theirs)) (n ∷ ns)) ⊎ GiveOther told g r
    first_of n ns (inr x) y = inr (gives_effect told g r mine theirs n x.0 x.1 x.2)
    first_of n ns (inl e) (inr y) = inr y
    first_of n ns (inl e) (inl q) = inl (ap (λ (o : Outcome). o ∷ map (outcome_of (steps mine)) ns) e ∙ ap (λ (os : List Outcome). outcome_of (steps theirs) n ∷ os) q)

    search_in : (ns : List Name) → ((n : Name) → Mem n ns → IsOutcomeTold mine theirs told n) → (map (outcome_of (steps mine)) ns ≡ map (outcome_of (steps theirs)) ns) ⊎ GiveOther told g r
    search_in [] f = inl refl
    search_in (n ∷ ns) f = first_of n ns (f n (inl refl)) (search_in ns (λ k m. f k (inr m)))

    same_answer : map (outcome_of (steps mine)) (effects_of plan.program r) ≡ map (outcome_of (steps theirs)) (effects_of plan.program r) → request_of (steps mine) ≡ request_of (steps theirs) → answer_at plan t g r ≡ answer_at plan s g r
    same_answer e q =
        let o : map (outcome_of (steps_of t g r)) (effects_of plan.program r) ≡ map (outcome_of (steps_of s g r)) (effects_of plan.program r) = ap (λ (ss : List Step). map (outcome_of ss) (effects_of plan.program r)) (sym (placed_are t g r)) ∙ e ∙ ap (λ (ss : List Step). map (outcome_of ss) (effects_of plan.program r)) (placed_are s g r) in
        let p : request_of (steps_of t g r) ≡ request_of (steps_of s g r) = ap request_of (sym (placed_are t g r)) ∙ q ∙ ap request_of (placed_are s g r) in
        cc

    go : (map (outcome_of (steps mine)) (effects_of plan.program r) ≡ map (outcome_of (steps theirs)) (effects_of plan.program r)) ⊎ GiveOther told g r → IsStopTold mine theirs told → GiveOther told g r
    go (inr y) z = y
    go (inl e) (inr x) = gives_stop told g r mine theirs x.0 x.1 x.2
    go (inl e) (inl q) = absurd (other (same_answer e q))

-- what tells of an effect, or of a stop request, holds
pub effect_holds : (plan : PlanParts) (t s : List Row) (g : Tag) (r : ℕ) (c : Contrast) → IsOfEffect (effects_of plan.program r) (placed_steps t g r) (placed_steps s g r) c → IsContrast plan t s g r c
effect_holds plan t s g r c x = go x.0 x.1 x.2
  where
    go : (n : Name) → Contains (effects_of plan.program r) n → TellsOf (placed_steps t g r) (placed_steps s g r) n c → IsContrast plan t s g r c
    go (Port p) m y = subst (λ (d : Contrast). IsContrast plan t s g r d) (sym y.2) (m, y.3)
    go (Action a) m y = subst (λ (d : Contrast). IsContrast plan t s g r d) (sym y.3) (m, y.4)

pub stop_holds : (plan : PlanParts) (t s : List Row) (g : Tag) (r : ℕ) (c : Contrast) → TellsStop (placed_steps t g r) (placed_steps s g r) c → IsContrast plan t s g r c
stop_holds plan t s g r c x = subst (λ (d : Contrast). IsContrast plan t s g r d) (sym x.2) x.3

-- what is told stays told
pub answers_kept : (plan : PlanParts) (t s : List Row) (g : Tag) (r : ℕ) (old new : List Contrast) → Adds plan t s g r old new → TellsAnswers plan t s g r old → TellsAnswers plan t s g r new
answers_kept plan t s g r old new a tells = record { effects = λ n m. effect n (tells.effects n m); stop = stop tells.stop }
  where
    effect : (n : Name) → IsOutcomeTold (placed_steps t g r) (placed_steps s g r) old n → IsOutcomeTold (placed_steps t g r) (placed_steps s g r) new n
    effect n (inl e) = inl e
    effect n (inr x) = inr (x.0, adds_keeps plan t s g r old new a x.0 x.1, x.2)

    stop : IsStopTold (placed_steps t g r) (placed_steps s g r) old → IsStopTold (placed_steps t g r) (placed_steps s g r) new
    stop (inl e) = inl e
    stop (inr x) = inr (x.0, adds_keeps plan t s g r old new a x.0 x.1, x.2)

-- what is told of the effects of two runs, and then of their stop requests
module _ (plan : PlanParts) (t s : List Row) (g : Tag) (r : ℕ) (ns : List Name) (mine theirs : List Placed) (en : ns ≡ effects_of plan.program r) (em : mine ≡ placed_steps t g r) (et : theirs ≡ placed_steps s g r) (told : List Contrast) (right : All (IsOfEffect ns mine theirs) told) (all : (n : Name) → Contains ns n → IsOutcomeTold mine theirs told n) where
  right_here : All (IsOfEffect (effects_of plan.program r) (placed_steps t g r) (placed_steps s g r)) told
  right_here = subst (λ (ms : List Name). All (IsOfEffect ms (placed_steps t g r) (placed_steps s g r)) told) en (subst (λ (x : List Placed). All (IsOfEffect ns (placed_steps t g r) x) told) et (subst (λ (x : List Placed). All (IsOfEffect ns x theirs) told) em right))

  all_here : (n : Name) → Contains (effects_of plan.program r) n → IsOutcomeTold (placed_steps t g r) (placed_steps s g r) told n
  all_here = subst (λ (ms : List Name). (n : Name) → Contains ms n → IsOutcomeTold (placed_steps t g r) (placed_steps s g r) told n) en (subst (λ (x : List Placed). (n : Name) → Contains ns n → IsOutcomeTold (placed_steps t g r) x told n) et (subst (λ (x : List Placed). (n : Name) → Contains ns n → IsOutcomeTold x theirs told n) em all))

  holds_effects : AreContrasts plan t s g r told
  holds_effects k d l = effect_holds plan t s g r _ (right_here k d l)

  pub holds_without : (new : List Contrast) → new ≡ told → AreContrasts plan t s g r new
  holds_without new e = subst (λ (cs : List Contrast). AreContrasts plan t s g r cs) (sym e) holds_effects

  pub tells_without : (new : List Contrast) → new ≡ told → is_some (first_request mine) ≡ is_some (first_request theirs) → TellsAnswers plan t s g r new
  tells_without new e same = subst (λ (cs : List Contrast). TellsAnswers plan t s g r cs) (sym e) (record { effects = all_here; stop = inl (request_outcome (placed_steps t g r) ∙ ap (λ x. is_some (first_request x)) (sym em) ∙ same ∙ ap (λ x. is_some (first_request x)) et ∙ sym (request_outcome (placed_steps s g r))) })

  module _ (stop : Contrast) (new : List Contrast) (tells : TellsStop mine theirs stop) (is : new ≡ told ++ stop ∷ []) where
    tells_here : TellsStop (placed_steps t g r) (placed_steps s g r) stop
    tells_here = subst (λ (x : List Placed). TellsStop (placed_steps t g r) x stop) et (subst (λ (x : List Placed). TellsStop x theirs stop) em tells)

    adds_stop : Adds plan t s g r told new
    adds_stop = adds_one plan t s g r told new stop is (stop_holds plan t s g r stop tells_here)

    pub holds_with : AreContrasts plan t s g r new
    holds_with = adds_holds plan t s g r told new adds_stop holds_effects

    pub tells_with : TellsAnswers plan t s g r new
    tells_with = record { effects = λ n m. more n (all_here n m); stop = inr (stop, last_contained told new stop is, tells_here) }
      where
        more : (n : Name) → IsOutcomeTold (placed_steps t g r) (placed_steps s g r) told n → IsOutcomeTold (placed_steps t g r) (placed_steps s g r) new n
        more n (inl e) = inl e
        more n (inr x) = inr (x.0, adds_keeps plan t s g r told new adds_stop x.0 x.1, x.2)

pub own_effects : (plan : PlanParts) (r : ℕ) (program : Parts) → program ≡ plan.program → (x : Reaction) → slice_get program.reactions r ≡ Some x → (ns : List Name) → ns ≡ x.effects → ns ≡ effects_of plan.program r
own_effects plan r program p x e ns q = q ∙ sym (ap (λ (o : Option Reaction). unwrap_or (option_map (λ y. y.effects) o) []) (subst (λ (z : Parts). slice_get z.reactions r ≡ Some x) p e))

-- what is told once reasons are added
module _ (plan : PlanParts) (t s first second : List Row) (e1 : t ≡ first) (e2 : s ≡ second) (g : Tag) (r : ℕ) (old new told : List Contrast) (is : told ≡ new) (adds : Adds plan t s g r old new) (tells : TellsAnswers plan t s g r old) where
  tells_now : TellsAnswers plan first second g r told
  tells_now = subst (λ (cs : List Contrast). TellsAnswers plan first second g r cs) (sym is) (subst (λ (x : List Row). TellsAnswers plan first x g r new) e2 (subst (λ (x : List Row). TellsAnswers plan x s g r new) e1 (answers_kept plan t s g r old new adds tells)))

  pub find_enough : answer_at plan first g r ≢ answer_at plan second g r → GiveOther told g r
  find_enough other = told_gives plan first second g r told other tells_now

  pub find_all : TellsReads plan r new → TellsAll plan first second g r told
  find_all reads = record { answers = tells_now; reads = subst (λ (cs : List Contrast). TellsReads plan r cs) (sym is) reads }

  pub find_holds : AreContrasts plan t s g r old → AreContrasts plan first second g r told
  find_holds holds = subst (λ (cs : List Contrast). AreContrasts plan first second g r cs) (sym is) (subst (λ (x : List Row). AreContrasts plan first x g r new) e2 (subst (λ (x : List Row). AreContrasts plan x s g r new) e1 (adds_holds plan t s g r old new adds holds)))
