-- What is pending in a recording so far is a reaction, and open where it has run; what is open is pending.
use Rattle.std.proofs.Common.{ℕ, ◌<◌, List, [], length}
use Rattle.lft_tag.specs.declared.Tag.{Tag}
use Rattle.lft_ir.specs.declared.steps.row.Row.{Row}
use Rattle.lft_model.specs.{Plans.{PlanParts, IsSoundPlan}, Presence.Triggered, Runs.{Ran, start_row, by_ends}, Breaches.IsOpen, OneWorker.IsPending}
use Rattle.lft_model.specs.Recorded.{SoFar, OnlyEndedAnswer}
use Rattle.lft_model.proofs.{Places.slice_get_within, Committed.now, Quiet.{pending_triggered, pending_open}}
use Rattle.lft_scheduler.specs.Starts.{IsBusy, IsAnyOpen, SomethingLeft}

module _ (plan : PlanParts) (good : IsSoundPlan plan) (t : List Row) (so_far : SoFar plan t) (quiet : OnlyEndedAnswer t) where
  -- what is pending is a reaction
  pub pending_within : (g : Tag) (r : ℕ) → IsPending plan (by_ends plan t) g r → r < length plan.program.reactions
  pending_within g r p = let o : Triggered plan t g r = pending_triggered plan good t so_far quiet g r p in slice_get_within plan.program.reactions r o.reaction o.is_reaction

  -- what has run and is pending is open
  pub ran_open : (g : Tag) (r : ℕ) → IsPending plan (by_ends plan t) g r → Ran t g r → IsAnyOpen t
  ran_open g r p o = (o.worker, (g, r, record { start = o.place; before = slice_get_within t o.place (start_row o.worker g r) o.starts; starts = o.starts; not_ended = λ k a b e. pending_open plan good t so_far quiet g r p (record { place = k; worker = o.worker; before = b; ends = e }) }))

-- an open run is pending
pub open_pending : (plan : PlanParts) → IsSoundPlan plan → (t : List Row) → SoFar plan t → (w : ℕ) (g : Tag) (r : ℕ) → IsOpen t (length t) w g r → IsPending plan (by_ends plan t) g r
open_pending plan good t so_far w g r o = (now plan good t so_far w g r o [] (λ s m. absurd m)).0.pending

pub busy_left : (plan : PlanParts) → IsSoundPlan plan → (t : List Row) → SoFar plan t → (w : ℕ) → IsBusy t w → SomethingLeft plan t
busy_left plan good t so_far w b = (b.0, b.1, open_pending plan good t so_far w b.0 b.1 b.2)

pub any_left : (plan : PlanParts) → IsSoundPlan plan → (t : List Row) → SoFar plan t → IsAnyOpen t → SomethingLeft plan t
any_left plan good t so_far o = busy_left plan good t so_far o.0 o.1
