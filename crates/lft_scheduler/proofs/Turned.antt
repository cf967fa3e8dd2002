-- The turn of a tag once a run there has been begun or ended.
use Rattle.std.proofs.Common.{◌≡◌, ◌≢◌, ℕ, ◌+◌, ◌<◌, ◌⊎◌, inl, inr, List, ◌++◌, length, refl, sym, ap, ◌∙◌, subst, arith, Option, Some, slice_get, slice_set}
use Rattle.lft_tag.specs.declared.Tag.{Tag}
use Rattle.lft_ir.specs.declared.{parts.Value.Value, steps.row.{Row.Row, Step.Step}}
use Rattle.lft_graph.specs.Graph.{GraphParts, IsGraphOf}
use Rattle.lft_lists.proofs.Places.{get_there, get_write_cases, length_written, get_append_cases, get_left}
use Rattle.lft_scheduler.specs.declared.turn.phase.Phase.{Phase, TheVariants.{Idle, Waiting, Open}}
use Rattle.lft_scheduler.specs.inner.{Turns.TurnParts, Waits.{PhaseIs, IsTurnOf}, Telling.{IsTold, TriggeredByWrites}, Agendas.MayEnd}
use Rattle.lft_scheduler.proofs.RunEnded.{ran_before, ran_on, no_more, called_waits, pending_on, pending_cases}
use Rattle.lft_model.specs.{Plans.{PlanParts, IsSoundPlan}, Runs.{Run, Ran, start_row, by_ends}, OneWorker.IsPending}
use Rattle.lft_model.specs.Recorded.{SoFar, begun_steps, begun_rows, committed_rows}
use Rattle.lft_model.proofs.{Places.slice_get_within, Blocks.put_right, Added.added_row}

-- a run of r at g has been begun, and the ended runs are as they were
module _ (plan : PlanParts) (t : List Row) (w : ℕ) (g : Tag) (r : ℕ) (shown : List (Option Value)) (same : by_ends plan (t ++ begun_rows plan w g r shown) ≡ by_ends plan t) (pending : IsPending plan (by_ends plan t) g r) (old new : TurnParts) (is : IsTurnOf plan t g old) where
  abbrev more : List Row
  more = t ++ begun_rows plan w g r shown

  on : (c : ℕ) → IsPending plan (by_ends plan t) g c → IsPending plan (by_ends plan more) g c
  on c p = subst (λ (us : List Run). IsPending plan us g c) (sym same) p

  back : (c : ℕ) → IsPending plan (by_ends plan more) g c → IsPending plan (by_ends plan t) g c
  back c p = subst (λ (us : List Run). IsPending plan us g c) same p

  ran_too : (c : ℕ) → Ran t g c → Ran more g c
  ran_too c o = record { place = o.place; worker = o.worker; starts = get_left t (begun_rows plan w g r shown) o.place (start_row o.worker g c) o.starts }

  ran_itself : Ran more g r
  ran_itself = record { place = length t; worker = w; starts = put_right t (begun_rows plan w g r shown) 0 (start_row w g r) (length t) (omega arith) refl }

  ran_other : (c : ℕ) → c ≢ r → Ran more g c → Ran t g c
  ran_other c other o = go (get_append_cases t (begun_rows plan w g r shown) o.place (start_row o.worker g c) o.starts)
    where
      go : (slice_get t o.place ≡ Some (start_row o.worker g c)) ⊎ ((j : ℕ) × (o.place ≡ length t + j) × (slice_get (begun_rows plan w g r shown) j ≡ Some (start_row o.worker g c))) → Ran t g c
      go (inl e) = record { place = o.place; worker = o.worker; starts = e }
      go (inr e) = absurd (other (sym (ap (λ (x : Row). x.reaction) (added_row w g r (begun_steps plan r shown) e.0 (start_row o.worker g c) e.2).row_is)))

  pub begun_turn : new.graph ≡ old.graph → new.phases ≡ slice_set old.phases r Open → slice_get old.phases r ≡ Some Waiting → IsTurnOf plan (t ++ begun_rows plan w g r shown) g new
  begun_turn graph now waiting = record { graph = subst (λ (k : GraphParts). IsGraphOf plan.program k) (sym graph) is.graph; count = ap length now ∙ length_written old.phases r Open ∙ is.count; phases = λ c x e. go c x (get_write_cases old.phases r c Open x (slice_get_within old.phases r Waiting waiting) (ap (λ (ps : List Phase). slice_get ps c) (sym now) ∙ e)) }
    where
      stays : (c : ℕ) → c ≢ r → (x : Phase) → PhaseIs plan t g c x → PhaseIs plan more g c x
      stays c other Idle h = λ p. h (back c p)
      stays c other Waiting h = (on c h.0, λ o. h.1 (ran_other c other o))
      stays c other Open h = (on c h.0, ran_too c h.1)

      go : (c : ℕ) (x : Phase) → ((c ≡ r) × (Open ≡ x)) ⊎ ((c ≢ r) × (slice_get old.phases c ≡ Some x)) → PhaseIs plan more g c x
      go c x (inl q) = subst (λ (d : ℕ). PhaseIs plan more g d x) (sym q.0) (subst (λ (y : Phase). PhaseIs plan more g r y) q.1 (on r pending, ran_itself))
      go c x (inr q) = stays c q.0 x (is.phases c x q.1)

-- the run of r at g has ended, those that its writes trigger there have been told, and it is idle
module _ (plan : PlanParts) (good : IsSoundPlan plan) (t : List Row) (w : ℕ) (g : Tag) (r : ℕ) (steps : List Step) (b : MayEnd plan t w g r steps) (so_far : SoFar plan (t ++ committed_rows w g r steps)) (old told new : TurnParts) (is : IsTurnOf plan t g old) (telling : IsTold (TriggeredByWrites plan.program g steps) old told) where
  abbrev rows : List Row
  rows = t ++ committed_rows w g r steps

  pub ended_turn : new.graph ≡ told.graph → new.phases ≡ slice_set told.phases r Idle → r < length told.phases → IsTurnOf plan (t ++ committed_rows w g r steps) g new
  ended_turn graph now within = record { graph = subst (λ (k : GraphParts). IsGraphOf plan.program k) (sym (graph ∙ telling.graph)) is.graph; count = ap length now ∙ length_written told.phases r Idle ∙ telling.count ∙ is.count; phases = λ c x e. go c x (get_write_cases told.phases r c Idle x within (ap (λ (ps : List Phase). slice_get ps c) (sym now) ∙ e)) }
    where
      -- another that wasn't idle is as it was
      busy : (c : ℕ) → c ≢ r → (x y : Phase) → PhaseIs plan t g c x → slice_get told.phases c ≡ Some x → slice_get told.phases c ≡ Some y → x ≢ Idle → PhaseIs plan rows g c y
      busy c other x y h e f n = let z : Some x ≡ Some y = sym e ∙ f in let k : x ≡ y = cc in subst (λ (p : Phase). PhaseIs plan rows g c p) k (stays x h n)
        where
          stays : (x : Phase) → PhaseIs plan t g c x → x ≢ Idle → PhaseIs plan rows g c x
          stays Idle h n = absurd (n refl)
          stays Waiting h n = (pending_on plan good t w g r steps b so_far c other h.0, λ o. h.1 (ran_before plan good t w g r steps b g c o))
          stays Open h n = (pending_on plan good t w g r steps b so_far c other h.0, ran_on plan good t w g r steps b g c h.1)

      -- an idle one waits where it is triggered by a write
      idle : (c : ℕ) (y : Phase) → ¬ IsPending plan (by_ends plan t) g c → slice_get told.phases c ≡ Some y → (y ≡ Idle) ⊎ ((y ≡ Waiting) × TriggeredByWrites plan.program g steps c) → PhaseIs plan rows g c y
      idle c y none f (inr q) = subst (λ (p : Phase). PhaseIs plan rows g c p) (sym q.0) (called_waits plan good t w g r steps b so_far c q.1)
      idle c y none f (inl q) = subst (λ (p : Phase). PhaseIs plan rows g c p) (sym q) (λ p. still (pending_cases plan good t w g r steps b so_far c p))
        where
          still : IsPending plan (by_ends plan t) g c ⊎ TriggeredByWrites plan.program g steps c → ⊥
          still (inl p) = none p
          still (inr o) = telling.all c o (f ∙ ap Some q)

      by_phase : (c : ℕ) → c ≢ r → (x y : Phase) → slice_get old.phases c ≡ Some x → slice_get told.phases c ≡ Some y → PhaseIs plan t g c x → PhaseIs plan rows g c y
      by_phase c other Idle y e f h = idle c y h f (telling.only c y e f)
      by_phase c other Waiting y e f h = let n : Waiting ≢ Idle = λ z. absurd (cc) in busy c other Waiting y h (telling.kept c Waiting n e) f n
      by_phase c other Open y e f h = let n : Open ≢ Idle = λ z. absurd (cc) in busy c other Open y h (telling.kept c Open n e) f n

      go : (c : ℕ) (y : Phase) → ((c ≡ r) × (Idle ≡ y)) ⊎ ((c ≢ r) × (slice_get told.phases c ≡ Some y)) → PhaseIs plan rows g c y
      go c y (inl q) = subst (λ (d : ℕ). PhaseIs plan rows g d y) (sym q.0) (subst (λ (p : Phase). PhaseIs plan rows g r p) q.1 (no_more plan good t w g r steps b so_far))
      go c y (inr q) =
          let l : c < length told.phases = slice_get_within told.phases c y q.1 in
          let x = get_there old.phases c (let k = telling.count in omega arith) in
          by_phase c q.0 x.0 y x.1 q.1 (is.phases c x.0 x.1)
