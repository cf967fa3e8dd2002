-- What is known of a recording's runs and of the names of its program.
use Rattle.std.proofs.Common.{◌≡◌, ℕ, ◌<◌, List, [], length, refl, ap, ◌∙◌, subst, arith, Option, Some, slice_get, ℤ}
use Rattle.lft_tag.specs.declared.Tag.{Tag}
use Rattle.lft_ir.specs.declared.{parts.Value.Value, steps.row.Row.Row}
use Rattle.lft_model.specs.{Plans.{PlanParts, IsSoundPlan}, Runs.{Run, Ran, end_row, by_ends}, Breaches.Legal, OneWorker.HasRun, Recorded.SoFar}
use Rattle.lft_model.proofs.{Legality.{KeepsFour, opened, one_start, one_starter, ran_at}, Ended.all_ended, Law.{EndRow, end_of_run}}
use Rattle.lft_model.proofs.{Recording.{dec_end_row, open_ready_now}, Empty.empty_so_far, Finished.{AllEnded, finished_legal}}
use Rattle.lft_pool.specs.{declared.bodies.done.Done.Done, Books.IsRecording}
use Rattle.lft_scheduler.specs.Starts.{NothingLeft}

-- each ended run has rows
pub ran_of_run : (plan : PlanParts) (t : List Row) → KeepsFour plan t → (k : ℕ) (u : Run) → slice_get (by_ends plan t) k ≡ Some u → Ran t u.tag u.reaction
ran_of_run plan t well k u e =
    let h : HasRun (by_ends plan t) u.tag u.reaction = record { place = k; run = u; is_run = e; same_tag = refl; same_reaction = refl } in
    let o = end_of_run plan t (length t) u.tag u.reaction (subst (λ (l : List Run). HasRun l u.tag u.reaction) (all_ended plan t) h) in
    ran_at plan t well o.place (end_row o.worker u.tag u.reaction) u.tag u.reaction o.ends refl refl

-- a recording so far after which nothing is left is legal
pub nothing_left_legal : (plan : PlanParts) → IsSoundPlan plan → (t : List Row) → SoFar plan t → NothingLeft plan t → Legal plan t
nothing_left_legal plan good t so_far none = finished_legal plan good t so_far each none
  where
    each : AllEnded t
    each i w g r e = go (dec_end_row t (length t) g r)
      where
        go : Dec (EndRow t (length t) g r) → (k : ℕ) × (i < k) × (slice_get t k ≡ Some (end_row w g r))
        go (yes o) =
            let s = opened plan t so_far.rows_well o.place (end_row o.worker g r) o.ends tt in
            let q : s.start ≡ i = one_start plan t so_far.rows_well s.start i o.worker w g r s.starts e in
            let v : o.worker ≡ w = one_starter plan t so_far.rows_well s.start i o.worker w g r s.starts e in
            let b : s.start < o.place = s.before in
            (o.place, omega arith, o.ends ∙ ap (λ (d : ℕ). Some (end_row d g r)) v)
        go (no n) = absurd (none g r (open_ready_now plan good t so_far i w g r e n).0.pending)

-- no rows are a recording
pub empty_recording : (holds : ℕ → Tag → ℤ → List (Option Value) → Done → Type 0) (plan : PlanParts) → IsSoundPlan plan → IsRecording holds plan [] []
empty_recording holds plan good = record {
  so_far = empty_so_far plan good;
  follows = record { one_each = refl; handed_on = λ k u words e f. absurd (cc); meets = λ k u words e f. absurd (cc) };
  fit = record { few = omega arith; each = λ i x e. absurd (cc) };
  quiet = λ i x e a. absurd (cc);
}
