-- The agenda of no rows.
use Rattle.std.proofs.Common.{◌≡◌, ℕ, List, [], length, replicate, refl, ap, ◌∙◌, subst, Some, None, slice_get}
use Rattle.lft_tag.proofs.Order.{from_first}
use Rattle.lft_ir.specs.declared.steps.row.Row.{Row}
use Rattle.lft_queue.specs.Pending.{Pending}
use Rattle.lft_graph.specs.Graph.{IsGraphOf}
use Rattle.lft_lists.proofs.Places.{get_same, length_same}
use Rattle.lft_scheduler.specs.declared.turn.phase.Phase.{Phase, TheVariants.Idle}
use Rattle.lft_scheduler.specs.inner.{Turns.TurnParts, Events.HasEvents, OpenRuns.AreOpen, Telling.{IsTold, TriggeredByQueue}, Agendas.{IsReached, MayAdvance}}
use Rattle.lft_scheduler.specs.Starts.{IsAnyOpen}
use Rattle.lft_scheduler.proofs.NextTags.{told_turn}
use Rattle.lft_model.{specs.{Plans.{PlanParts, IsSoundPlan}, Recorded.OnlyEndedAnswer}, proofs.Empty.empty_so_far}

-- no row is there
no_row : (i : ℕ) (x : Row) → slice_get [] i ≡ Some x → ⊥
no_row i x e = absurd (cc)

quiet : OnlyEndedAnswer []
quiet i x e a = absurd (no_row i x e)

-- no run is open
pub none_open : ¬ IsAnyOpen []
none_open o = let q = o.1.2.starts in absurd (cc)

pub none_are_open : (plan : PlanParts) → AreOpen plan [] []
none_are_open plan = record { each = λ k o e. absurd (cc); all = λ w g r o. (let q = o.starts in absurd (cc)) }

pub no_rows_yet : (plan : PlanParts) (good : IsSoundPlan plan) → MayAdvance plan [] plan.externals.stop
no_rows_yet plan good = record { so_far = empty_so_far plan good; quiet = quiet; stop_is = refl; none_open = none_open }

-- the first tag is reached once those that are triggered there have been told
pub first_reached : (plan : PlanParts) (good : IsSoundPlan plan) (q : List Pending) (old new : TurnParts) → HasEvents plan [] (record { time = 0; micro = 0 }) plan.externals.stop None q → IsGraphOf plan.program old.graph → old.phases ≡ replicate (length plan.program.reactions) Idle → IsTold (TriggeredByQueue plan.program q plan.externals.stop (record { time = 0; micro = 0 })) old new → IsReached plan [] (record { time = 0; micro = 0 }) plan.externals.stop new q
first_reached plan good q old new has graph idle told = record {
  past = λ i x e. absurd (no_row i x e);
  least = λ h c p. from_first h;
  turn_is = told_turn plan good [] (empty_so_far plan good) quiet plan.externals.stop refl q (record { time = 0; micro = 0 }) (from_first plan.externals.stop) (λ n v w. has.values (record { time = 0; micro = 0 }) n v w (from_first (record { time = 0; micro = 0 })) (from_first plan.externals.stop) tt) (λ i x e. absurd (no_row i x e)) old new graph (ap length idle ∙ length_same (length plan.program.reactions) Idle) (λ r x e. get_same (length plan.program.reactions) r Idle x (subst (λ (ps : List Phase). slice_get ps r ≡ Some x) idle e)) told;
  events = has;
}
