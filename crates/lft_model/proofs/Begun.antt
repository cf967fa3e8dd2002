-- A run that is begun: its start row and its read rows keep a recording so far.
use Rattle.std.proofs.Common.{◌≡◌, ℕ, zero, suc, ◌+◌, ◌<◌, ◌≤◌, ◌⊎◌, inl, inr, List, [], ◌∷◌, ◌++◌, append-nil, length, take, map, refl, sym, ap, ◌∙◌, subst, arith, Option, Some, None, slice_get, filter_map, option_map, unwrap_or, zip, Contains, true, false, ◌==◌, eq-eqb}
use Rattle.std.{specs.List.{last_or, AllZip}, proofs.{Math.Seq.take-append_seam, lemmas.List.Elements.filter_map-append}}
use Rattle.lft_tag.{specs.{declared.Tag.Tag, Tags.{Before, UpTo}}, proofs.Order.UpTo-not}
use Rattle.lft_lists.proofs.{Members.{Mem, mem_get, get_mem, mem_contains, none_nil}, Places.{get_left, get_append_cases}}
use Rattle.lft_ir.specs.Parts.{inputs}
use Rattle.lft_ir.specs.declared.parts.{Reaction.Reaction, Value.Value, Name.{Name, TheVariants.{Port, Action}}}
use Rattle.lft_ir.specs.declared.steps.row.{Row.Row, Step.{Step, TheVariants.{Start, Read, Write, Schedule, Stop, End}}}
use Rattle.lft_model.specs.{Plans.{PlanParts, IsSoundPlan}, Presence.{Inputs, Shows, requests, stop}}
use Rattle.lft_model.specs.Runs.{Run, Ran, start_row, end_row, read_step, value_read, read_of, step_of, steps_of, inputs_of, reads_at, ended_by, by_ends}
use Rattle.lft_model.specs.{Breaches.{IsOpen, IsOutOfOrder, IsUndeclared, WasRead}, inner.Breaches.BreaksRow, OneWorker.{Ready, Path, NoClash, rows}}
use Rattle.lft_model.specs.Recorded.{SoFar, run_row, begun_rows}
use Rattle.lft_model.proofs.{Places.slice_get_within, Stops.{asker, stop_added}, Legality.{KeepsFour, in_time, ran_at}, Steps.{step_row, row_step}}
use Rattle.lft_model.proofs.{RunSteps.{ReadOf, in_reads, mem_zip}, Agree.no_steps, Grown.added_none, Blocks.{put_right, two_places, reads_one}}
use Rattle.lft_model.proofs.{RowsLegal.{told, last_option, inputs_apart}, Added.{keeps_added, by_ends_added, so_far_added, AddedRow, added_row, added_in_time}}

-- a start or a read
abbrev pub IsOpening : Step → Type 0
IsOpening Start = Unit {0}
IsOpening (Read n v) = Unit {0}
IsOpening (Write n v) = ⊥
IsOpening (Schedule n v d) = ⊥
IsOpening Stop = ⊥
IsOpening End = ⊥

-- a run of r at g by worker w: r is ready and has no run yet, its inputs are shown, and the worker has no open run
module _ (plan : PlanParts) (good : IsSoundPlan plan) (t : List Row) (so_far : SoFar plan t) (w : ℕ) (g : Tag) (r : ℕ) (shown : List (Option Value)) (ready : Ready plan (by_ends plan t) g r) (reads : Inputs plan (rows plan (by_ends plan t)) g r shown) (early : UpTo g (stop plan t)) (fresh : ¬ Ran t g r) (idle : (h : Tag) (c : ℕ) → ¬ IsOpen t (length t) w h c) where
  -- the steps after the start
  abbrev read_steps : List Step
  read_steps = filter_map read_step (zip (inputs_of plan.program r) shown)

  -- the rows that are added
  abbrev new_rows : List Row
  new_rows = begun_rows plan w g r shown

  -- the run as its first rows show it: they tell nothing of its answer
  abbrev its_run : Run
  its_run = record { tag = g; reaction = r; reads = shown; answer = record { outcomes = []; stops = false } }

  -- each step after the start is a read of one of the inputs
  read_there : (j : ℕ) (s : Step) → slice_get (Start ∷ read_steps) (suc j) ≡ Some s → ReadOf plan.program its_run s
  read_there j s e = in_reads plan.program its_run s (mem_get read_steps j s e)

  -- so each step is a start or a read
  opening : (j : ℕ) (s : Step) → slice_get (Start ∷ read_steps) j ≡ Some s → IsOpening s
  opening zero s e = let q : Start ≡ s = cc in subst (λ (z : Step). IsOpening z) q tt
  opening (suc j) s e = let q = read_there j s e in subst (λ (z : Step). IsOpening z) (sym q.is_step) tt

  -- and the first alone is a start
  start_place : (j : ℕ) → slice_get (Start ∷ read_steps) j ≡ Some Start → j ≡ 0
  start_place zero e = refl
  start_place (suc j) e = let q = read_there j Start e in let z : Start ≡ Read q.name q.value = q.is_step in absurd (cc)

  -- each new row is a start or a read of the run
  new_opening : (x : Row) → Mem x new_rows → IsOpening x.step × (x.tag ≡ g) × (x.reaction ≡ r)
  new_opening x m =
      let p = get_mem x new_rows m in
      let n = added_row w g r (Start ∷ read_steps) p.0 x p.1 in
      (opening p.0 x.step n.is_step, ap (λ (y : Row). y.tag) (sym n.row_is), ap (λ (y : Row). y.reaction) (sym n.row_is))

  -- the new rows ask for no stop
  pub same_stop : stop plan (t ++ begun_rows plan w g r shown) ≡ stop plan t
  same_stop = go (stop_added plan t new_rows)
    where
      go : (stop plan (t ++ new_rows) ≡ stop plan t) ⊎ Mem (stop plan (t ++ new_rows)) (requests new_rows) → stop plan (t ++ new_rows) ≡ stop plan t
      go (inl e) = e
      go (inr m) = let a = asker new_rows (stop plan (t ++ new_rows)) m in absurd (subst (λ (s : Step). IsOpening s) a.2 (new_opening a.0 a.1).0)

  -- the run's steps are those of the new rows
  steps_new : steps_of (t ++ new_rows) g r ≡ Start ∷ read_steps
  steps_new = filter_map-append (step_of g r) t new_rows ∙ ap (λ ss. ss ++ filter_map (step_of g r) new_rows) (no_steps plan t so_far.rows_well g r fresh) ∙ all (Start ∷ read_steps)
    where
      all : (ss : List Step) → filter_map (step_of g r) (map (run_row w g r) ss) ≡ ss
      all [] = refl
      all (s ∷ ss) = let q : step_of g r (run_row w g r s) ≡ Some s = row_step g r (run_row w g r s) refl refl in rw q (ap (λ zs. s ∷ zs) (all ss))

  -- and other runs keep theirs
  pub steps_same : (h : Tag) (c : ℕ) → Ran t h c → steps_of (t ++ begun_rows plan w g r shown) h c ≡ steps_of t h c
  steps_same h c o = added_none (step_of h c) t new_rows none
    where
      none : (x : Row) → Mem x new_rows → step_of h c x ≡ None
      none x m = go (step_of h c x) refl
        where
          go : (z : Option Step) → step_of h c x ≡ z → step_of h c x ≡ None
          go None q = q
          go (Some s) q =
              let p = step_row t h c x s q in
              let n = new_opening x m in
              let a : h ≡ g = sym p.0 ∙ n.1 in
              let b : c ≡ r = sym p.1 ∙ n.2 in
              absurd (fresh (record { place = o.place; worker = o.worker; starts = o.starts ∙ ap (λ (k : Tag). Some (start_row o.worker k c)) a ∙ ap (λ (d : ℕ). Some (start_row o.worker g d)) b }))

  -- the run reads what was shown
  pub own_reads : reads_at plan (t ++ begun_rows plan w g r shown) g r ≡ shown
  own_reads = ap (λ (ss : List Step). map (read_of ss) (inputs_of plan.program r)) steps_new ∙ told (Shows plan (rows plan (by_ends plan t)) g) (read_of (Start ∷ read_steps)) (inputs_of plan.program r) shown each_shown told_one
    where
      each_shown : AllZip (Shows plan (rows plan (by_ends plan t)) g) (inputs_of plan.program r) shown
      each_shown = let q : inputs_of plan.program r ≡ inputs reads.reaction = ap (λ (o : Option Reaction). unwrap_or (option_map inputs o) []) reads.is_reaction in subst (λ (ns : List Name). AllZip (Shows plan (rows plan (by_ends plan t)) g) ns shown) (sym q) reads.each

      told_one : (n : Name) (o : Option Value) → Mem (n, o) (zip (inputs_of plan.program r) shown) → read_of (Start ∷ read_steps) n ≡ o
      told_one n o m = ap (λ (vs : List Value). last_or None vs) (reads_one plan.program its_run (inputs_of plan.program r) shown n o (inputs_apart plan good (by_ends plan t) so_far.path r) m) ∙ last_option o

  -- the run is open at each of its read rows
  open_new : (j : ℕ) → 0 < j → IsOpen (t ++ new_rows) (length t + j) w g r
  open_new j b = record { start = length t; before = omega arith; starts = put_right t new_rows 0 (start_row w g r) (length t) (omega arith) refl; not_ended = not_ended }
    where
      not_ended : (k : ℕ) → length t < k → k < length t + j → ¬ (slice_get (t ++ new_rows) k ≡ Some (end_row w g r))
      not_ended k a c e = go (get_append_cases t new_rows k (end_row w g r) e)
        where
          go : (slice_get t k ≡ Some (end_row w g r)) ⊎ ((i : ℕ) × (k ≡ length t + i) × (slice_get new_rows i ≡ Some (end_row w g r))) → ⊥
          go (inl q) = let l : k < length t = slice_get_within t k (end_row w g r) q in omega arith
          go (inr q) = (new_opening (end_row w g r) (mem_get new_rows q.0 (end_row w g r) q.2)).0

  -- no input has a second read row
  read_once : (i : ℕ) (n : Name) (v : Value) → slice_get (Start ∷ read_steps) i ≡ Some (Read n v) → ¬ WasRead (t ++ new_rows) (length t + i) g r n
  read_once i n v f u = by_place (get_append_cases t new_rows u.0 row u.4)
    where
      row : Row
      row = run_row u.1 g r (Read n u.2)

      seen : (n : Name) (v : Value) → value_read n (Read n v) ≡ Some v
      seen (Port p) v = let a : (p == p) ≡ true = eq-eqb p p refl in rw a refl
      seen (Action p) v = let a : (p == p) ≡ true = eq-eqb p p refl in rw a refl

      again : (p i : ℕ) → slice_get (Start ∷ read_steps) p ≡ Some (Read n u.2) → slice_get (Start ∷ read_steps) i ≡ Some (Read n v) → p < i → ⊥
      again zero i h f c = let z : Start ≡ Read n u.2 = cc in absurd (cc)
      again (suc p) zero h f c = absurd (omega arith)
      again (suc p) (suc i) h f c =
          let o = read_there i (Read n v) f in
          let z : Read n v ≡ Read o.name o.value = o.is_step in
          let name_is : o.name ≡ n = cc in
          let m : Mem (n, Some o.value) (zip (inputs_of plan.program r) shown) = subst (λ (y : Name). Mem (y, Some o.value) (zip (inputs_of plan.program r) shown)) name_is o.is_read in
          let two : 2 ≤ length (filter_map (value_read n) read_steps) = two_places (value_read n) read_steps p i (Read n u.2) (Read n v) u.2 v (omega arith) h f (seen n u.2) (seen n v) in
          let one : length (filter_map (value_read n) read_steps) ≡ 1 = ap length (reads_one plan.program its_run (inputs_of plan.program r) shown n (Some o.value) (inputs_apart plan good (by_ends plan t) so_far.path r) m) in
          omega arith

      by_place : (slice_get t u.0 ≡ Some (run_row u.1 g r (Read n u.2))) ⊎ ((p : ℕ) × (u.0 ≡ length t + p) × (slice_get new_rows p ≡ Some (run_row u.1 g r (Read n u.2)))) → ⊥
      by_place (inl h) = fresh (ran_at plan t so_far.rows_well u.0 (run_row u.1 g r (Read n u.2)) g r h refl refl)
      by_place (inr h) =
          let o = added_row w g r (Start ∷ read_steps) h.0 (run_row u.1 g r (Read n u.2)) h.2 in
          let a : u.0 ≡ length t + h.0 = h.1 in
          let b : u.0 < length t + i = u.3 in
          again h.0 i o.is_step f (omega arith)

  -- the rules 1 to 4 at the new rows
  keeps_new : (j : ℕ) (x : Row) (k : ℕ) → slice_get new_rows j ≡ Some x → k < 5 → ¬ BreaksRow plan (t ++ new_rows) (length t + j) x k
  keeps_new j x k e l b = go b
    where
      n : AddedRow w g r (Start ∷ read_steps) j x
      n = added_row w g r (Start ∷ read_steps) j x e

      tag_is : x.tag ≡ g
      tag_is = ap (λ (y : Row). y.tag) (sym n.row_is)

      reaction_is : x.reaction ≡ r
      reaction_is = ap (λ (y : Row). y.reaction) (sym n.row_is)

      its_opening : (s : Step) → x.step ≡ s → IsOpening s
      its_opening s q = opening j s (n.is_step ∙ ap Some q)

      not_after : Before (stop plan (t ++ new_rows)) x.tag → ⊥
      not_after q = UpTo-not g (stop plan t) early (subst (λ (h : Tag). Before (stop plan t) h) tag_is (subst (λ (h : Tag). Before h x.tag) same_stop q))

      earlier_old : (i : ℕ) (y : Row) → slice_get (t ++ new_rows) i ≡ Some y → i < length t + j → x.step ≡ Start → slice_get t i ≡ Some y
      earlier_old i y f c s = at (get_append_cases t new_rows i y f)
        where
          at : (slice_get t i ≡ Some y) ⊎ ((m : ℕ) × (i ≡ length t + m) × (slice_get new_rows m ≡ Some y)) → slice_get t i ≡ Some y
          at (inl q) = q
          at (inr q) = let z : j ≡ 0 = start_place j (n.is_step ∙ ap Some s) in let a : i ≡ length t + q.0 = q.1 in absurd (omega arith)

      in_order : (s : Step) → x.step ≡ s → IsOutOfOrder (t ++ new_rows) (length t + j) x s → ⊥
      in_order Start s (inl q) = fresh (ran_at plan t so_far.rows_well q.0 (start_row q.1 x.tag x.reaction) g r (earlier_old q.0 (start_row q.1 x.tag x.reaction) q.3 q.2 s) tag_is reaction_is)
      in_order Start s (inr q) =
          let o = q.2 in
          let st : slice_get t o.start ≡ Some (start_row x.worker q.0 q.1) = earlier_old o.start (start_row x.worker q.0 q.1) o.starts o.before s in
          let v : x.worker ≡ w = ap (λ (y : Row). y.worker) (sym n.row_is) in
          let m : IsOpen t (length t) x.worker q.0 q.1 = record { start = o.start; before = slice_get_within t o.start (start_row x.worker q.0 q.1) st; starts = st; not_ended = λ k a c f. o.not_ended k a (omega arith) (get_left t new_rows k (end_row x.worker q.0 q.1) f) } in
          idle q.0 q.1 (subst (λ (d : ℕ). IsOpen t (length t) d q.0 q.1) v m)
      in_order (Read a d) s q = q (subst (λ (y : Row). IsOpen (t ++ new_rows) (length t + j) y.worker y.tag y.reaction) n.row_is (open_new j (later j (n.is_step ∙ ap Some s))))
        where
          later : (j : ℕ) → slice_get (Start ∷ read_steps) j ≡ Some (Read a d) → 0 < j
          later zero f = let z : Some Start ≡ Some (Read a d) = f in absurd (cc)
          later (suc j) f = omega arith
      in_order (Write a d) s q = its_opening (Write a d) s
      in_order (Schedule a d c) s q = its_opening (Schedule a d c) s
      in_order Stop s q = its_opening Stop s
      in_order End s q = its_opening End s

      declared : (s : Step) → x.step ≡ s → IsUndeclared plan.program (t ++ new_rows) (length t + j) x s → ⊥
      declared Start s q = q
      declared Stop s q = q
      declared End s q = q
      declared (Write a d) s q = its_opening (Write a d) s
      declared (Schedule a d c) s q = its_opening (Schedule a d c) s
      declared (Read a d) s (inl u) = u (subst (λ (c : ℕ). Contains (inputs_of plan.program c) a) (sym reaction_is) (is_input j (n.is_step ∙ ap Some s)))
        where
          is_input : (i : ℕ) → slice_get (Start ∷ read_steps) i ≡ Some (Read a d) → Contains (inputs_of plan.program r) a
          is_input zero f = let z : Start ≡ Read a d = cc in absurd (cc)
          is_input (suc i) f =
              let o = read_there i (Read a d) f in
              let z : Read a d ≡ Read o.name o.value = o.is_step in
              let name_is : o.name ≡ a = cc in
              subst (λ (y : Name). Contains (inputs_of plan.program r) y) name_is (mem_contains o.name (inputs_of plan.program r) (mem_zip o.name (Some o.value) (inputs_of plan.program r) shown o.is_read).0)
      declared (Read a d) s (inr u) = read_once j a d (n.is_step ∙ ap Some s) (subst (λ (c : ℕ). WasRead (t ++ new_rows) (length t + j) g c a) reaction_is (subst (λ (h : Tag). WasRead (t ++ new_rows) (length t + j) h x.reaction a) tag_is u))

      go : BreaksRow plan (t ++ new_rows) (length t + j) x k → ⊥
      go (inl q) = added_in_time plan good t so_far w g r r ready.pending (Start ∷ read_steps) j x e q.1
      go (inr (inl q)) = not_after q.1
      go (inr (inr (inl q))) = in_order x.step refl q.1
      go (inr (inr (inr (inl q)))) = declared x.step refl q.1
      go (inr (inr (inr (inr q)))) = let z : k ≡ 5 = q.0 in omega arith

  -- so the rules 1 to 4 hold of all rows
  kept : KeepsFour plan (t ++ new_rows)
  kept = keeps_added plan t new_rows so_far.rows_well (λ i x e. subst (λ (h : Tag). UpTo x.tag h) (sym same_stop) (in_time plan t so_far.rows_well i x e)) keeps_new

  -- no run more has ended
  pub same_runs : by_ends plan (t ++ begun_rows plan w g r shown) ≡ by_ends plan t
  same_runs = by_ends_added plan t new_rows kept ∙ ap (λ (us : List Run). by_ends plan t ++ us) (none_nil (λ (row : Row). ended_by plan (t ++ new_rows) row row.step) new_rows none) ∙ append-nil (by_ends plan t)
    where
      none : (j : ℕ) (y : Row) → slice_get new_rows j ≡ Some y → ended_by plan (t ++ new_rows) y y.step ≡ None
      none j y e = by_step y.step (new_opening y (mem_get new_rows j y e)).0
        where
          by_step : (s : Step) → IsOpening s → ended_by plan (t ++ new_rows) y s ≡ None
          by_step Start o = refl
          by_step (Read a d) o = refl
          by_step (Write a d) o = absurd o
          by_step (Schedule a d c) o = absurd o
          by_step Stop o = absurd o
          by_step End o = absurd o

  -- a run that is begun keeps a recording so far
  pub begun_so_far : SoFar plan (t ++ begun_rows plan w g r shown)
  begun_so_far = so_far_added plan t new_rows kept so_far (subst (λ (l : List Run). Path plan l) (sym same_runs) so_far.path) (subst (λ (l : List Run). NoClash plan l) (sym same_runs) so_far.no_clash) (λ i v h c e. ap (λ (ss : List Step). map (read_of ss) (inputs_of plan.program c)) (steps_same h c (record { place = i; worker = v; starts = e }))) started
    where
      started : (j v : ℕ) (h : Tag) (c : ℕ) → slice_get new_rows j ≡ Some (start_row v h c) → Ready plan (by_ends plan (take (length t + j) (t ++ new_rows))) h c × Inputs plan (rows plan (by_ends plan (take (length t + j) (t ++ new_rows)))) h c (reads_at plan (t ++ new_rows) h c)
      started j v h c e =
          let n = added_row w g r (Start ∷ read_steps) j (start_row v h c) e in
          let z : j ≡ 0 = start_place j n.is_step in
          let a : g ≡ h = ap (λ (y : Row). y.tag) n.row_is in
          let b : r ≡ c = ap (λ (y : Row). y.reaction) n.row_is in
          let p : length t + j ≡ length t = omega arith in
          let q : take (length t + j) (t ++ new_rows) ≡ t = ap (λ (i : ℕ). take i (t ++ new_rows)) p ∙ take-append_seam t new_rows in
          let i : Inputs plan (rows plan (by_ends plan t)) g r (reads_at plan (t ++ new_rows) g r) = subst (λ (os : List (Option Value)). Inputs plan (rows plan (by_ends plan t)) g r os) (sym own_reads) reads in
          subst (λ (d : ℕ). Ready plan (by_ends plan (take (length t + j) (t ++ new_rows))) h d × Inputs plan (rows plan (by_ends plan (take (length t + j) (t ++ new_rows)))) h d (reads_at plan (t ++ new_rows) h d)) b (subst (λ (k : Tag). Ready plan (by_ends plan (take (length t + j) (t ++ new_rows))) k r × Inputs plan (rows plan (by_ends plan (take (length t + j) (t ++ new_rows)))) k r (reads_at plan (t ++ new_rows) k r)) a (subst (λ (rs : List Row). Ready plan (by_ends plan rs) g r × Inputs plan (rows plan (by_ends plan rs)) g r (reads_at plan (t ++ new_rows) g r)) (sym q) (ready, i)))
