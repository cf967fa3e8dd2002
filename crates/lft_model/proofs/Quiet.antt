-- A recording so far whose open runs have only their starts and reads: its ended runs show what its rows show.
use Rattle.std.proofs.Common.{◌≡◌, ℕ, List, [], ◌∷◌, length, sym, ap, ◌∙◌, subst, Option, Some, None, slice_get}
use Rattle.std.specs.List.{AllZip}
use Rattle.lft_tag.specs.{declared.Tag.Tag, Tags.UpTo}
use Rattle.lft_ir.specs.Parts.{inputs}
use Rattle.lft_ir.specs.declared.{parts.{Value.Value, Name.Name}, steps.row.{Row.Row, Step.{Step, TheVariants.{Start, Read, Write, Schedule, Stop, End}}}}
use Rattle.lft_model.specs.{Plans.{PlanParts, IsSoundPlan}, Presence.{stop, Triggered, Shows, Inputs}, Runs.{Run, by_ends, rows_of}}
use Rattle.lft_model.specs.{OneWorker.{HasRun, IsPending, rows}, Recorded.{SoFar, IsAnswer, OnlyEndedAnswer}}
use Rattle.lft_model.proofs.{Legality.{IsInner, IsOrdered, Inside, opened}, Ended.{ended_before, all_ended}, Law.{EndRow, end_of_run, run_of_end}}
use Rattle.lft_model.proofs.{Reached.all_stop, Recording.recorded_in_order, Finished.{at_own, own_at, triggered_own, own_triggered}}

module _ (plan : PlanParts) (good : IsSoundPlan plan) (t : List Row) (so_far : SoFar plan t) (quiet : OnlyEndedAnswer t) where
  told : (i : ℕ) (x : Row) → slice_get t i ≡ Some x → IsAnswer x.step → Inside t i x.tag x.reaction
  told i x e a =
      let o = opened plan t so_far.rows_well i x e (inner x.step a) in
      let q = quiet i x e a in
      record { start = o.start; end = q.0; worker = x.worker; starts = o.starts; ends = q.2; after_start = o.before; before_end = q.1 }
    where
      inner : (s : Step) → IsAnswer s → IsInner s
      inner Start a = a
      inner (Read n v) a = tt
      inner (Write n v) a = tt
      inner (Schedule n v d) a = tt
      inner Stop a = tt
      inner End a = tt

  pub in_order : IsOrdered plan t
  in_order = record { well = so_far.rows_well; told = told; precedence = recorded_in_order plan good t so_far }

  -- the ended runs have the stop of the recording
  pub ended_stop : stop plan (rows plan (by_ends plan t)) ≡ stop plan t
  ended_stop = ap (λ (l : List Run). stop plan (rows_of plan.program l)) (all_ended plan t) ∙ all_stop plan good t in_order

  -- they trigger what the rows trigger
  pub triggered_to_ended : (g : Tag) (r : ℕ) → Triggered plan t g r → Triggered plan (rows plan (by_ends plan t)) g r
  triggered_to_ended g r o = subst (λ (l : List Run). Triggered plan (rows_of plan.program l) g r) (sym (all_ended plan t)) (triggered_own plan good t in_order g r o)

  pub triggered_from_ended : (g : Tag) (r : ℕ) → Triggered plan (rows plan (by_ends plan t)) g r → Triggered plan t g r
  triggered_from_ended g r o = own_triggered plan good t in_order g r (subst (λ (l : List Run). Triggered plan (rows_of plan.program l) g r) (all_ended plan t) o)

  shows_to : (g : Tag) (n : Name) (o : Option Value) → Shows plan t g n o → Shows plan (rows_of plan.program (ended_before plan t (length t))) g n o
  shows_to g n None s = λ p. s (p.0, own_at plan good t in_order g n p.0 p.1)
  shows_to g n (Some v) s = at_own plan good t in_order g n v s

  all_to : (g : Tag) (ns : List Name) (os : List (Option Value)) → AllZip (Shows plan t g) ns os → AllZip (Shows plan (rows_of plan.program (ended_before plan t (length t))) g) ns os
  all_to g [] [] z = z
  all_to g [] (o ∷ os) z = z
  all_to g (n ∷ ns) [] z = z
  all_to g (n ∷ ns) (o ∷ os) z = (shows_to g n o z.0, all_to g ns os z.1)

  -- what the rows show to a reaction the ended runs show to it
  pub inputs_to_ended : (g : Tag) (r : ℕ) (shown : List (Option Value)) → Inputs plan t g r shown → Inputs plan (rows plan (by_ends plan t)) g r shown
  inputs_to_ended g r shown o = subst (λ (l : List Run). Inputs plan (rows_of plan.program l) g r shown) (sym (all_ended plan t)) (record { reaction = o.reaction; is_reaction = o.is_reaction; each = all_to g (inputs o.reaction) shown o.each })

  -- a reaction is pending where the rows trigger it up to their stop, and no row ends it
  pub pending_now : (g : Tag) (r : ℕ) → UpTo g (stop plan t) → Triggered plan t g r → ¬ EndRow t (length t) g r → IsPending plan (by_ends plan t) g r
  pending_now g r u o n = record { in_time = subst (λ (k : Tag). UpTo g k) (sym ended_stop) u; triggered = triggered_to_ended g r o; no_run = λ h. n (end_of_run plan t (length t) g r (subst (λ (l : List Run). HasRun l g r) (all_ended plan t) h)) }

  -- and nowhere else
  pub pending_time : (g : Tag) (r : ℕ) → IsPending plan (by_ends plan t) g r → UpTo g (stop plan t)
  pending_time g r p = subst (λ (k : Tag). UpTo g k) ended_stop p.in_time

  pub pending_triggered : (g : Tag) (r : ℕ) → IsPending plan (by_ends plan t) g r → Triggered plan t g r
  pending_triggered g r p = triggered_from_ended g r p.triggered

  pub pending_open : (g : Tag) (r : ℕ) → IsPending plan (by_ends plan t) g r → ¬ EndRow t (length t) g r
  pending_open g r p e = p.no_run (subst (λ (l : List Run). HasRun l g r) (sym (all_ended plan t)) (run_of_end plan t (length t) g r e))
