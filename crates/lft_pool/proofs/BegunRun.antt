-- What a book keeps when a run is begun.
use Rattle.std.proofs.Common.{◌≡◌, ℕ, ℤ, ◌+◌, ◌<◌, ◌≤◌, ◌⊎◌, inl, inr, List, [], ◌∷◌, ◌++◌, length, length-append, take, map, refl, sym, ap, ◌∙◌, subst, Option, Some, None, slice_get, filter_map, zip, false, option_map, unwrap_or}
use Rattle.std.{specs.List.cons_option, proofs.lemmas.List.Elements.filter_map-append}
use Rattle.lft_tag.specs.{declared.Tag.Tag, Tags.{UpTo, IsRecorded}}
use Rattle.lft_lists.proofs.{Members.{Mem, mem_get}, Places.{get_append_cases, get_left}, Mapped.mapped_from}
use Rattle.lft_ir.specs.Parts.{inputs}
use Rattle.lft_ir.specs.declared.{parts.{Value.Value, Name.Name, Reaction.Reaction}, steps.row.{Row.Row, Step.{Step, TheVariants.{Start, Read}}}}
use Rattle.lft_ir.specs.Steps.Fits.{RowsFit, RowFits, StepFits}
use Rattle.lft_ir.proofs.Naming.{input_known}
use Rattle.lft_model.specs.{Plans.{PlanParts, IsSoundPlan}, Presence.{stop, Inputs}, Runs.{Run, Ran, end_row, read_step, steps_of, inputs_of, by_ends}}
use Rattle.lft_model.specs.{Breaches.IsOpen, OneWorker.rows}
use Rattle.lft_model.specs.Recorded.{SoFar, Follows, IsAnswer, OnlyEndedAnswer, run_row, begun_rows, answered, answered_steps, instance_of, word_after}
use Rattle.lft_model.proofs.{Places.slice_get_within, RunSteps.{in_reads, mem_zip}, Begun.{begun_so_far, same_runs, steps_same}, Quiet.pending_time}
use Rattle.lft_pool.{specs.{declared.bodies.done.Done.Done, Books.{law_of, IsRecording}}, proofs.Known.ran_of_run}
use Rattle.lft_scheduler.specs.Starts.{MayStart, IsBusy, started_row, started_count}

-- each instance hands its word on, and each run meets the law: as `Follows` says of the ended runs
abbrev pub HandsOn : PlanParts → List (ℤ × ℤ) → List Run → Type 0
HandsOn plan states l = (k : ℕ) (u : Run) (words : ℤ × ℤ) → slice_get l k ≡ Some u → slice_get states k ≡ Some words → words.0 ≡ word_after plan.program (instance_of plan.program u.reaction) (take k l) (take k states)

abbrev pub MeetsLaw : (ℕ → Tag → ℤ → List (Option Value) → Done → Type 0) → List Row → List (ℤ × ℤ) → List Run → Type 0
MeetsLaw holds t states l = (k : ℕ) (u : Run) (words : ℤ × ℤ) → slice_get l k ≡ Some u → slice_get states k ≡ Some words → law_of holds u.reaction u.tag words.0 u.reads words.1 (answered_steps t u.tag u.reaction)

module _ (holds : ℕ → Tag → ℤ → List (Option Value) → Done → Type 0) (plan : PlanParts) (good : IsSoundPlan plan) (t : List Row) (states : List (ℤ × ℤ)) (is : IsRecording holds plan t states) (w : ℕ) (g : Tag) (r : ℕ) (shown : List (Option Value)) (may : MayStart plan t g r) (reads : Inputs plan (rows plan (by_ends plan t)) g r shown) (idle : ¬ IsBusy t w) where
  early : UpTo g (stop plan t)
  early = pending_time plan good t is.so_far is.quiet g r may.ready.pending

  none_open : (h : Tag) (c : ℕ) → ¬ IsOpen t (length t) w h c
  none_open h c o = idle (h, c, o)

  so_far : SoFar plan (t ++ begun_rows plan w g r shown)
  so_far = begun_so_far plan good t is.so_far w g r shown may.ready reads early may.fresh none_open

  -- no run more has ended
  pub same : by_ends plan (t ++ begun_rows plan w g r shown) ≡ by_ends plan t
  same = same_runs plan good t is.so_far w g r shown may.ready reads early may.fresh none_open

  -- the words and the law
  follows : Follows plan (law_of holds) (t ++ begun_rows plan w g r shown) states
  follows = record {
    one_each = is.follows.one_each ∙ ap length (sym same);
    handed_on = subst (λ (l : List Run). HandsOn plan states l) (sym same) is.follows.handed_on;
    meets = subst (λ (l : List Run). MeetsLaw holds (t ++ begun_rows plan w g r shown) states l) (sym same) (λ k u words e f. met k u words e f (ran_of_run plan t is.so_far.rows_well k u e));
  }
    where
      met : (k : ℕ) (u : Run) (words : ℤ × ℤ) → slice_get (by_ends plan t) k ≡ Some u → slice_get states k ≡ Some words → Ran t u.tag u.reaction → law_of holds u.reaction u.tag words.0 u.reads words.1 (answered_steps (t ++ begun_rows plan w g r shown) u.tag u.reaction)
      met k u words e f o =
          let q : steps_of (t ++ begun_rows plan w g r shown) u.tag u.reaction ≡ steps_of t u.tag u.reaction = steps_same plan good t is.so_far w g r shown may.ready reads early may.fresh none_open u.tag u.reaction o in
          subst (λ (ss : List Step). law_of holds u.reaction u.tag words.0 u.reads words.1 (filter_map answered ss)) (sym q) (is.follows.meets k u words e f)

  -- the run as its first rows show it
  abbrev its_run : Run
  its_run = record { tag = g; reaction = r; reads = shown; answer = record { outcomes = []; stops = false } }

  new_step : (s : Step) → Mem s (Start ∷ filter_map read_step (zip (inputs_of plan.program r) shown)) → StepFits plan.program s × ¬ IsAnswer s
  new_step s (inl e) = subst (λ (z : Step). StepFits plan.program z × ¬ IsAnswer z) e (tt, λ a. a)
  new_step s (inr m) =
      let o = in_reads plan.program its_run s m in
      let n : Mem o.name (inputs_of plan.program r) = (mem_zip o.name (Some o.value) (inputs_of plan.program r) shown o.is_read).0 in
      let q : inputs_of plan.program r ≡ inputs reads.reaction = ap (λ (z : Option Reaction). unwrap_or (option_map inputs z) []) reads.is_reaction in
      let k = input_known plan.program good.sound r reads.reaction reads.is_reaction o.name (subst (λ (ns : List Name). Mem o.name ns) q n) in
      subst (λ (z : Step). StepFits plan.program z × ¬ IsAnswer z) (sym o.is_step) (k, λ a. a)

  -- each new row is at g, of r, and a start or a read
  new_row : (j : ℕ) (x : Row) → slice_get (begun_rows plan w g r shown) j ≡ Some x → (x.tag ≡ g) × (x.reaction ≡ r) × StepFits plan.program x.step × ¬ IsAnswer x.step
  new_row j x e =
      let q = mapped_from (run_row w g r) (Start ∷ filter_map read_step (zip (inputs_of plan.program r) shown)) j x e in
      let s = new_step q.0 (mem_get (Start ∷ filter_map read_step (zip (inputs_of plan.program r) shown)) j q.0 q.1) in
      let z : q.0 ≡ x.step = ap (λ (y : Row). y.step) q.2 in
      (ap (λ (y : Row). y.tag) (sym q.2), ap (λ (y : Row). y.reaction) (sym q.2), subst (λ (y : Step). StepFits plan.program y) z s.0, subst (λ (y : Step). ¬ IsAnswer y) z s.1)

  fit : IsRecorded g → length (t ++ begun_rows plan w g r shown) ≤ 4000000 → RowsFit plan.program (t ++ begun_rows plan w g r shown)
  fit recorded few = record { few = few; each = λ i x e. go i x (get_append_cases t (begun_rows plan w g r shown) i x e) }
    where
      go : (i : ℕ) (x : Row) → (slice_get t i ≡ Some x) ⊎ ((j : ℕ) × (i ≡ length t + j) × (slice_get (begun_rows plan w g r shown) j ≡ Some x)) → RowFits plan.program x
      go i x (inl e) = is.fit.each i x e
      go i x (inr e) =
          let n = new_row e.0 x e.2 in
          record { recorded = subst (λ (h : Tag). IsRecorded h) (sym n.0) recorded; reaction = subst (λ (c : ℕ). c < length plan.program.reactions) (sym n.1) (slice_get_within plan.program.reactions r reads.reaction reads.is_reaction); step = n.2 }

  quiet : OnlyEndedAnswer (t ++ begun_rows plan w g r shown)
  quiet i x e a = go (get_append_cases t (begun_rows plan w g r shown) i x e)
    where
      go : (slice_get t i ≡ Some x) ⊎ ((j : ℕ) × (i ≡ length t + j) × (slice_get (begun_rows plan w g r shown) j ≡ Some x)) → (k : ℕ) × (i < k) × (slice_get (t ++ begun_rows plan w g r shown) k ≡ Some (end_row x.worker x.tag x.reaction))
      go (inl f) = let q = is.quiet i x f a in (q.0, q.1, get_left t (begun_rows plan w g r shown) q.0 (end_row x.worker x.tag x.reaction) q.2)
      go (inr f) = absurd ((new_row f.0 x f.2).3 a)

  pub begun_recording : IsRecorded g → length (t ++ begun_rows plan w g r shown) ≤ 4000000 → IsRecording holds plan (t ++ begun_rows plan w g r shown) states
  begun_recording recorded few = record { so_far = so_far; follows = follows; fit = fit recorded few; quiet = quiet }

-- one run more has started
pub begun_count : (plan : PlanParts) (t : List Row) (w : ℕ) (g : Tag) (r : ℕ) (shown : List (Option Value)) → started_count (t ++ begun_rows plan w g r shown) ≡ started_count t + 1
begun_count plan t w g r shown =
    let f : Row → Option Step = λ row. started_row row.step in
    ap length (filter_map-append f t (begun_rows plan w g r shown)) ∙ length-append (filter_map f t) (filter_map f (begun_rows plan w g r shown)) ∙ ap (λ (n : ℕ). started_count t + n) (ap (λ (ss : List Step). length (Start ∷ ss)) (none (zip (inputs_of plan.program r) shown)))
  where
    none : (xs : List (Name × Option Value)) → filter_map (λ (row : Row). started_row row.step) (map (run_row w g r) (filter_map read_step xs)) ≡ []
    none [] = refl
    none (x ∷ xs) = go x.1 (none xs)
      where
        go : (o : Option Value) → filter_map (λ (row : Row). started_row row.step) (map (run_row w g r) (filter_map read_step xs)) ≡ [] → filter_map (λ (row : Row). started_row row.step) (map (run_row w g r) (cons_option (option_map (λ v. Read x.0 v) o) (filter_map read_step xs))) ≡ []
        go None e = e
        go (Some v) e = e
