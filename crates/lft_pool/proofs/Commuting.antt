-- A committed run leaves the other open runs what they were: triggered, with their inputs.
use Rattle.std.proofs.Common.{◌≡◌, ℕ, List, [], ◌∷◌, ◌++◌, sym, ap, ◌∙◌, subst, Some}
use Rattle.lft_tag.{specs.declared.Tag.Tag, proofs.Order.UpTo_antisym}
use Rattle.lft_lists.proofs.Members.{Mem, get_mem}
use Rattle.lft_ir.specs.declared.steps.row.{Row.Row, Step.Step}
use Rattle.lft_model.specs.{Plans.{PlanParts, IsSoundPlan}, Presence.{Triggered, Inputs}, Runs.{Run, run_at, start_row, by_ends}, OneWorker.{Ready, rows}}
use Rattle.lft_model.specs.Recorded.{MayAnswer, committed_rows}
use Rattle.lft_model.proofs.{Legality.one_starter, Grown.{open_triggered, open_inputs}, Committed.{now, committed_runs}}
use Rattle.lft_scheduler.{specs.inner.Agendas.MayEnd, proofs.RunsOpen.committed_cases}
use Rattle.lft_pool.specs.Answers.{KeepsOpenRuns}

pub keeps_open_runs : (plan : PlanParts) (good : IsSoundPlan plan) (t : List Row) (w : ℕ) (g : Tag) (r : ℕ) (steps : List Step) → MayEnd plan t w g r steps → KeepsOpenRuns plan t (t ++ committed_rows w g r steps)
keeps_open_runs plan good t w g r steps b v h c o =
    let p = committed_cases plan good t w g r steps b v h c o in
    let mine : Ready plan (by_ends plan t) g r = (now plan good t b.so_far w g r b.open_run [] (λ s m. absurd m)).0 in
    let its : Ready plan (by_ends plan t) h c = (now plan good t b.so_far v h c p.0 [] (λ s m. absurd m)).0 in
    let tag : h ≡ g = UpTo_antisym h g (its.least g r mine.pending) (mine.least h c its.pending) in
    let u : Run = run_at plan (t ++ committed_rows w g r steps) g r in
    let runs : by_ends plan (t ++ committed_rows w g r steps) ≡ by_ends plan t ++ u ∷ [] = committed_runs plan good t b.so_far w g r b.open_run steps may in
    let other : ¬ (r ≡ c) = λ e. p.1 (one_starter plan t b.so_far.rows_well p.0.start b.open_run.start v w g r (p.0.starts ∙ ap (λ (k : Tag). Some (start_row v k c)) tag ∙ ap (λ (d : ℕ). Some (start_row v g d)) (sym e)) b.open_run.starts, tag, sym e) in
    (its.pending.triggered, subst (λ (us : List Run). Triggered plan (rows plan us) h c) (sym runs) (open_triggered plan good (by_ends plan t) u mine h c its other its.pending.triggered), λ shown i. subst (λ (us : List Run). Inputs plan (rows plan us) h c shown) (sym runs) (open_inputs plan good (by_ends plan t) u mine h c its other shown i))
  where
    may : (s : Step) → Mem s steps → MayAnswer plan r s
    may s m = let q = get_mem s steps m in b.may q.0 s q.1
