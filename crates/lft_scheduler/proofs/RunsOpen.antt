-- The open runs when a run is begun and when one is ended.
use Rattle.std.proofs.Common.{◌≡◌, ◌↔◌, ℕ, zero, suc, ◌+◌, ◌<◌, ◌⊎◌, inl, inr, List, [], ◌∷◌, ◌++◌, length, map, refl, sym, ap, ◌∙◌, subst, arith, Option, Some, slice_get, filter_map, zip, Bool, true, false, not, cond, ◌&&◌, ◌==◌, eqb-true, eq-eqb, IsTrue}
use Rattle.std.{specs.List.filter, proofs.lemmas.Bool.false≢true}
use native.Mathlib.Decide.{dec_lt}
use Rattle.lft_tag.{specs.{declared.Tag.Tag, Tags.{UpTo, same_tag}}, proofs.Order.{same_tag_refl, same_tag_true}}
use Rattle.lft_lists.proofs.{Members.{Mem, mem_get, get_mem, mem_cases}, Places.{get_append_cases, get_left}}
use Rattle.lft_ir.specs.declared.{parts.Value.Value, steps.row.{Row.Row, Step.{Step, TheVariants.{Start, Read, End}}}}
use Rattle.lft_model.specs.{Plans.{PlanParts, IsSoundPlan}, Presence.stop, Runs.{Ran, start_row, end_row, read_step, read_of, inputs_of, reads_at}}
use Rattle.lft_model.specs.{Breaches.IsOpen, Recorded.{begun_rows, committed_rows}}
use Rattle.lft_model.proofs.{Places.slice_get_within, Steps.{both_true, in_reads}, Blocks.put_right, Added.added_row, Begun.{steps_same, own_reads}}
use Rattle.lft_model.proofs.{Committed.same_reads, Quiet.pending_time}
use Rattle.lft_scheduler.specs.{Starts.IsBusy, declared.open.OpenRun.OpenRun, inner.{OpenRuns.{AreOpen, HasReads, is_run}, Agendas.{MayBegin, MayEnd}}}
use Rattle.lft_scheduler.proofs.RunEnded.{may, end_there}

-- what a filter keeps
pub filter_mem : {X : Type 0} (p : X → Bool) (xs : List X) (x : X) → Mem x (filter p xs) → Mem x xs × (p x ≡ true)
filter_mem p [] x m = absurd m
filter_mem {X} p (y ∷ ys) x m = go (p y) refl m (λ n. filter_mem p ys x n)
  where
    go : (b : Bool) → p y ≡ b → Mem x (cond b (y ∷ filter p ys) (filter p ys)) → (Mem x (filter p ys) → Mem x ys × (p x ≡ true)) → ((y ≡ x) ⊎ Mem x ys) × (p x ≡ true)
    go true e (inl q) rest = (inl q, ap p (sym q) ∙ e)
    go true e (inr n) rest = let r = rest n in (inr r.0, r.1)
    go false e n rest = let r = rest n in (inr r.0, r.1)

pub mem_kept : {X : Type 0} (p : X → Bool) (xs : List X) (x : X) → Mem x xs → p x ≡ true → Mem x (filter p xs)
mem_kept p [] x m e = m
mem_kept {X} p (y ∷ ys) x (inl q) e = let z : p y ≡ true = ap p q ∙ e in rw z (inl q)
mem_kept {X} p (y ∷ ys) x (inr m) e = go (p y) (mem_kept p ys x m e)
  where
    go : (b : Bool) → Mem x (filter p ys) → Mem x (cond b (y ∷ filter p ys) (filter p ys))
    go true n = inr n
    go false n = n

-- the three of a run that passes the test
pub run_is : (w : ℕ) (g : Tag) (r : ℕ) (o : OpenRun) → is_run w g r o ≡ true → (o.worker ≡ w) × (o.tag ≡ g) × (o.reaction ≡ r)
run_is w g r o e =
    let a = both_true ((w == o.worker) && same_tag g o.tag) (r == o.reaction) e in
    let b = both_true (w == o.worker) (same_tag g o.tag) a.0 in
    (sym (eqb-true w o.worker b.0), sym (same_tag_true g o.tag b.1), sym (eqb-true r o.reaction a.1))

pub is_its_run : (w : ℕ) (g : Tag) (r : ℕ) (o : OpenRun) → o.worker ≡ w → o.tag ≡ g → o.reaction ≡ r → is_run w g r o ≡ true
is_its_run w g r o a b c =
    let x : (w == o.worker) ≡ true = eq-eqb w o.worker (sym a) in
    let y : same_tag g o.tag ≡ true = same_tag_refl g o.tag (sym b) in
    let z : (r == o.reaction) ≡ true = eq-eqb r o.reaction (sym c) in
    rw (x, y, z) refl

-- a start row without a later end row
pub opened_at : (t : List Row) (w : ℕ) (g : Tag) (r : ℕ) → IsOpen t (length t) w g r → Ran t g r
opened_at t w g r o = record { place = o.start; worker = w; starts = o.starts }

module _ (plan : PlanParts) (good : IsSoundPlan plan) (t : List Row) (w : ℕ) (g : Tag) (r : ℕ) (shown : List (Option Value)) (b : MayBegin plan t w g r shown) where
  early : UpTo g (stop plan t)
  early = pending_time plan good t b.so_far b.quiet g r b.may.ready.pending

  none_open : (h : Tag) (c : ℕ) → ¬ IsOpen t (length t) w h c
  none_open h c o = b.idle (h, c, o)

  -- no new row is an end
  no_end : (j v : ℕ) (h : Tag) (c : ℕ) → slice_get (begun_rows plan w g r shown) j ≡ Some (end_row v h c) → ⊥
  no_end j v h c e = go j (added_row w g r (Start ∷ filter_map read_step (zip (inputs_of plan.program r) shown)) j (end_row v h c) e).is_step
    where
      go : (j : ℕ) → slice_get (Start ∷ filter_map read_step (zip (inputs_of plan.program r) shown)) j ≡ Some End → ⊥
      go zero q = absurd (cc)
      go (suc j) q = let m = in_reads (zip (inputs_of plan.program r) shown) End (mem_get (filter_map read_step (zip (inputs_of plan.program r) shown)) j End q) in let z : End ≡ Read m.0 m.1 = m.2 in absurd (cc)

  -- a start among them is that of the run
  its_start : (j v : ℕ) (h : Tag) (c : ℕ) → slice_get (begun_rows plan w g r shown) j ≡ Some (start_row v h c) → (v ≡ w) × (h ≡ g) × (c ≡ r)
  its_start j v h c e =
      let q = (added_row w g r (Start ∷ filter_map read_step (zip (inputs_of plan.program r) shown)) j (start_row v h c) e).row_is in
      (ap (λ (y : Row). y.worker) (sym q), ap (λ (y : Row). y.tag) (sym q), ap (λ (y : Row). y.reaction) (sym q))

  -- so an open run is the new one or an old one
  begun_cases : (v : ℕ) (h : Tag) (c : ℕ) → IsOpen (t ++ begun_rows plan w g r shown) (length (t ++ begun_rows plan w g r shown)) v h c → IsOpen t (length t) v h c ⊎ ((v ≡ w) × (h ≡ g) × (c ≡ r))
  begun_cases v h c o = go (get_append_cases t (begun_rows plan w g r shown) o.start (start_row v h c) o.starts)
    where
      go : (slice_get t o.start ≡ Some (start_row v h c)) ⊎ ((j : ℕ) × (o.start ≡ length t + j) × (slice_get (begun_rows plan w g r shown) j ≡ Some (start_row v h c))) → IsOpen t (length t) v h c ⊎ ((v ≡ w) × (h ≡ g) × (c ≡ r))
      go (inl e) = inl (record { start = o.start; before = slice_get_within t o.start (start_row v h c) e; starts = e; not_ended = λ k a d f. (let m = get_left t (begun_rows plan w g r shown) k (end_row v h c) f in o.not_ended k a (slice_get_within (t ++ begun_rows plan w g r shown) k (end_row v h c) m) m) })
      go (inr e) = inr (its_start e.0 v h c e.2)

  -- an old one stays open
  begun_stays : (v : ℕ) (h : Tag) (c : ℕ) → IsOpen t (length t) v h c → IsOpen (t ++ begun_rows plan w g r shown) (length (t ++ begun_rows plan w g r shown)) v h c
  begun_stays v h c o =
      let s = get_left t (begun_rows plan w g r shown) o.start (start_row v h c) o.starts in
      record { start = o.start; before = slice_get_within (t ++ begun_rows plan w g r shown) o.start (start_row v h c) s; starts = s; not_ended = none }
    where
      none : (k : ℕ) → o.start < k → k < length (t ++ begun_rows plan w g r shown) → ¬ (slice_get (t ++ begun_rows plan w g r shown) k ≡ Some (end_row v h c))
      none k a d f = go (get_append_cases t (begun_rows plan w g r shown) k (end_row v h c) f)
        where
          go : (slice_get t k ≡ Some (end_row v h c)) ⊎ ((j : ℕ) × (k ≡ length t + j) × (slice_get (begun_rows plan w g r shown) j ≡ Some (end_row v h c))) → ⊥
          go (inl e) = o.not_ended k a (slice_get_within t k (end_row v h c) e) e
          go (inr e) = no_end e.0 v h c e.2

  -- and the new one is open
  begun_opens : IsOpen (t ++ begun_rows plan w g r shown) (length (t ++ begun_rows plan w g r shown)) w g r
  begun_opens =
      let s : slice_get (t ++ begun_rows plan w g r shown) (length t) ≡ Some (start_row w g r) = put_right t (begun_rows plan w g r shown) 0 (start_row w g r) (length t) (omega arith) refl in
      record { start = length t; before = slice_get_within (t ++ begun_rows plan w g r shown) (length t) (start_row w g r) s; starts = s; not_ended = none }
    where
      none : (k : ℕ) → length t < k → k < length (t ++ begun_rows plan w g r shown) → ¬ (slice_get (t ++ begun_rows plan w g r shown) k ≡ Some (end_row w g r))
      none k a d f = go (get_append_cases t (begun_rows plan w g r shown) k (end_row w g r) f)
        where
          go : (slice_get t k ≡ Some (end_row w g r)) ⊎ ((j : ℕ) × (k ≡ length t + j) × (slice_get (begun_rows plan w g r shown) j ≡ Some (end_row w g r))) → ⊥
          go (inl e) = let l : k < length t = slice_get_within t k (end_row w g r) e in omega arith
          go (inr e) = no_end e.0 w g r e.2

  reads_stay : (h : Tag) (c : ℕ) → Ran t h c → reads_at plan (t ++ begun_rows plan w g r shown) h c ≡ reads_at plan t h c
  reads_stay h c o = ap (λ (ss : List Step). map (read_of ss) (inputs_of plan.program c)) (steps_same plan good t b.so_far w g r shown b.may.ready b.reads_are early b.may.fresh none_open h c o)

  pub begun_open : (runs : List OpenRun) (its : OpenRun) → its ≡ record { worker = w; tag = g; reaction = r; reads = shown } → AreOpen plan t runs → AreOpen plan (t ++ begun_rows plan w g r shown) (runs ++ its ∷ [])
  begun_open runs its its_is is = record { each = each; all = all }
    where
      each : (k : ℕ) (o : OpenRun) → slice_get (runs ++ its ∷ []) k ≡ Some o → IsOpen (t ++ begun_rows plan w g r shown) (length (t ++ begun_rows plan w g r shown)) o.worker o.tag o.reaction × (o.reads ≡ reads_at plan (t ++ begun_rows plan w g r shown) o.tag o.reaction)
      each k o e = go (mem_cases o runs (its ∷ []) (mem_get (runs ++ its ∷ []) k o e))
        where
          new : its ≡ o → IsOpen (t ++ begun_rows plan w g r shown) (length (t ++ begun_rows plan w g r shown)) o.worker o.tag o.reaction × (o.reads ≡ reads_at plan (t ++ begun_rows plan w g r shown) o.tag o.reaction)
          new q = subst (λ (x : OpenRun). IsOpen (t ++ begun_rows plan w g r shown) (length (t ++ begun_rows plan w g r shown)) x.worker x.tag x.reaction × (x.reads ≡ reads_at plan (t ++ begun_rows plan w g r shown) x.tag x.reaction)) (sym its_is ∙ q) (begun_opens, sym (own_reads plan good t b.so_far w g r shown b.may.ready b.reads_are early b.may.fresh none_open))

          go : Mem o runs ⊎ Mem o (its ∷ []) → IsOpen (t ++ begun_rows plan w g r shown) (length (t ++ begun_rows plan w g r shown)) o.worker o.tag o.reaction × (o.reads ≡ reads_at plan (t ++ begun_rows plan w g r shown) o.tag o.reaction)
          go (inl m) = let p = get_mem o runs m in let q = is.each p.0 o p.1 in (begun_stays o.worker o.tag o.reaction q.0, q.1 ∙ sym (reads_stay o.tag o.reaction (opened_at t o.worker o.tag o.reaction q.0)))
          go (inr (inl q)) = new q
          go (inr (inr m)) = absurd m

      all : (v : ℕ) (h : Tag) (c : ℕ) → IsOpen (t ++ begun_rows plan w g r shown) (length (t ++ begun_rows plan w g r shown)) v h c → (k : ℕ) × (o : OpenRun) × (slice_get (runs ++ its ∷ []) k ≡ Some o) × (o.worker ≡ v) × (o.tag ≡ h) × (o.reaction ≡ c)
      all v h c o = go (begun_cases v h c o)
        where
          go : IsOpen t (length t) v h c ⊎ ((v ≡ w) × (h ≡ g) × (c ≡ r)) → (k : ℕ) × (o : OpenRun) × (slice_get (runs ++ its ∷ []) k ≡ Some o) × (o.worker ≡ v) × (o.tag ≡ h) × (o.reaction ≡ c)
          go (inl p) = let q = is.all v h c p in (q.0, q.1, get_left runs (its ∷ []) q.0 q.1 q.2, q.3, q.4, q.5)
          go (inr p) = (length runs, its, put_right runs (its ∷ []) 0 its (length runs) (omega arith) refl, ap (λ (x : OpenRun). x.worker) its_is ∙ sym p.0, ap (λ (x : OpenRun). x.tag) its_is ∙ sym p.1, ap (λ (x : OpenRun). x.reaction) its_is ∙ sym p.2)

module _ (plan : PlanParts) (good : IsSoundPlan plan) (t : List Row) (w : ℕ) (g : Tag) (r : ℕ) (steps : List Step) (b : MayEnd plan t w g r steps) where
  -- a new row is of the run, and no start
  its_row : (j v : ℕ) (h : Tag) (c : ℕ) (s : Step) → slice_get (committed_rows w g r steps) j ≡ Some (record { worker = v; tag = h; reaction = c; step = s }) → (v ≡ w) × (h ≡ g) × (c ≡ r) × Mem s (steps ++ End ∷ [])
  its_row j v h c s e =
      let q = added_row w g r (steps ++ End ∷ []) j (record { worker = v; tag = h; reaction = c; step = s }) e in
      (ap (λ (y : Row). y.worker) (sym q.row_is), ap (λ (y : Row). y.tag) (sym q.row_is), ap (λ (y : Row). y.reaction) (sym q.row_is), mem_get (steps ++ End ∷ []) j s q.is_step)

  no_start : Mem Start (steps ++ End ∷ []) → ⊥
  no_start m = go (mem_cases Start steps (End ∷ []) m)
    where
      go : Mem Start steps ⊎ Mem Start (End ∷ []) → ⊥
      go (inl n) = may plan good t w g r steps b Start n
      go (inr (inl q)) = absurd (cc)
      go (inr (inr n)) = n

  -- an open run is an old one, and another than the one that is ended
  pub committed_cases : (v : ℕ) (h : Tag) (c : ℕ) → IsOpen (t ++ committed_rows w g r steps) (length (t ++ committed_rows w g r steps)) v h c → IsOpen t (length t) v h c × ((v ≡ w) × (h ≡ g) × (c ≡ r) → ⊥)
  committed_cases v h c o = go (get_append_cases t (committed_rows w g r steps) o.start (start_row v h c) o.starts)
    where
      other : slice_get t o.start ≡ Some (start_row v h c) → (v ≡ w) × (h ≡ g) × (c ≡ r) → ⊥
      other e q =
          let l : o.start < length t = slice_get_within t o.start (start_row v h c) e in
          let there : slice_get (t ++ committed_rows w g r steps) (length t + length steps) ≡ Some (end_row v h c) = end_there plan good t w g r steps b ∙ ap (λ (d : ℕ). Some (end_row d g r)) (sym q.0) ∙ ap (λ (k : Tag). Some (end_row v k r)) (sym q.1) ∙ ap (λ (d : ℕ). Some (end_row v h d)) (sym q.2) in
          o.not_ended (length t + length steps) (omega arith) (slice_get_within (t ++ committed_rows w g r steps) (length t + length steps) (end_row v h c) there) there

      go : (slice_get t o.start ≡ Some (start_row v h c)) ⊎ ((j : ℕ) × (o.start ≡ length t + j) × (slice_get (committed_rows w g r steps) j ≡ Some (start_row v h c))) → IsOpen t (length t) v h c × ((v ≡ w) × (h ≡ g) × (c ≡ r) → ⊥)
      go (inl e) = (record { start = o.start; before = slice_get_within t o.start (start_row v h c) e; starts = e; not_ended = λ k a d f. (let m = get_left t (committed_rows w g r steps) k (end_row v h c) f in o.not_ended k a (slice_get_within (t ++ committed_rows w g r steps) k (end_row v h c) m) m) }, other e)
      go (inr e) = absurd (no_start (its_row e.0 v h c Start e.2).3)

  -- another stays open
  committed_stays : (v : ℕ) (h : Tag) (c : ℕ) → ((v ≡ w) × (h ≡ g) × (c ≡ r) → ⊥) → IsOpen t (length t) v h c → IsOpen (t ++ committed_rows w g r steps) (length (t ++ committed_rows w g r steps)) v h c
  committed_stays v h c n o =
      let s = get_left t (committed_rows w g r steps) o.start (start_row v h c) o.starts in
      record { start = o.start; before = slice_get_within (t ++ committed_rows w g r steps) o.start (start_row v h c) s; starts = s; not_ended = none }
    where
      none : (k : ℕ) → o.start < k → k < length (t ++ committed_rows w g r steps) → ¬ (slice_get (t ++ committed_rows w g r steps) k ≡ Some (end_row v h c))
      none k a d f = go (get_append_cases t (committed_rows w g r steps) k (end_row v h c) f)
        where
          go : (slice_get t k ≡ Some (end_row v h c)) ⊎ ((j : ℕ) × (k ≡ length t + j) × (slice_get (committed_rows w g r steps) j ≡ Some (end_row v h c))) → ⊥
          go (inl e) = o.not_ended k a (slice_get_within t k (end_row v h c) e) e
          go (inr e) = let q = its_row e.0 v h c End e.2 in n (q.0, q.1, q.2)

  pub committed_open : (runs : List OpenRun) → AreOpen plan t runs → AreOpen plan (t ++ committed_rows w g r steps) (filter (λ o. not (is_run w g r o)) runs)
  committed_open runs is = record { each = each; all = all }
    where
      its_reads : (h : Tag) (c : ℕ) → reads_at plan (t ++ committed_rows w g r steps) h c ≡ reads_at plan t h c
      its_reads h c = same_reads plan good t b.so_far w g r b.open_run steps (may plan good t w g r steps b) h c

      flip : (b : Bool) → not b ≡ true → b ≡ true → ⊥
      flip true e q = absurd (cc)
      flip false e q = absurd (cc)

      kept : (b : Bool) → (b ≡ true → ⊥) → not b ≡ true
      kept true n = absurd (n refl)
      kept false n = refl

      each : (k : ℕ) (o : OpenRun) → slice_get (filter (λ o. not (is_run w g r o)) runs) k ≡ Some o → IsOpen (t ++ committed_rows w g r steps) (length (t ++ committed_rows w g r steps)) o.worker o.tag o.reaction × (o.reads ≡ reads_at plan (t ++ committed_rows w g r steps) o.tag o.reaction)
      each k o e =
          let m = filter_mem (λ o. not (is_run w g r o)) runs o (mem_get (filter (λ o. not (is_run w g r o)) runs) k o e) in
          let p = get_mem o runs m.0 in
          let q = is.each p.0 o p.1 in
          (committed_stays o.worker o.tag o.reaction (λ z. flip (is_run w g r o) m.1 (is_its_run w g r o z.0 z.1 z.2)) q.0, q.1 ∙ sym (its_reads o.tag o.reaction))

      all : (v : ℕ) (h : Tag) (c : ℕ) → IsOpen (t ++ committed_rows w g r steps) (length (t ++ committed_rows w g r steps)) v h c → (k : ℕ) × (o : OpenRun) × (slice_get (filter (λ o. not (is_run w g r o)) runs) k ≡ Some o) × (o.worker ≡ v) × (o.tag ≡ h) × (o.reaction ≡ c)
      all v h c o =
          let p = committed_cases v h c o in
          let q = is.all v h c p.0 in
          let other : is_run w g r q.1 ≡ true → ⊥ = λ e. (let z = run_is w g r q.1 e in p.1 (sym q.3 ∙ z.0, sym q.4 ∙ z.1, sym q.5 ∙ z.2)) in
          let m = get_mem q.1 (filter (λ o. not (is_run w g r o)) runs) (mem_kept (λ o. not (is_run w g r o)) runs q.1 (mem_get runs q.0 q.1 q.2) (kept (is_run w g r q.1) other)) in
          (m.0, q.1, m.1, q.3, q.4, q.5)

-- what a search over the open runs finds
pub busy_with : (plan : PlanParts) (t : List Row) (runs : List OpenRun) (w k : ℕ) (o : OpenRun) → AreOpen plan t runs → slice_get runs k ≡ Some o → o.worker ≡ w → IsBusy t w
busy_with plan t runs w k o is e q = (o.tag, o.reaction, subst (λ (v : ℕ). IsOpen t (length t) v o.tag o.reaction) q (is.each k o e).0)

pub busy_none : (plan : PlanParts) (t : List Row) (runs : List OpenRun) (w : ℕ) → AreOpen plan t runs → ((k : ℕ) (o : OpenRun) → slice_get runs k ≡ Some o → o.worker ≡ w → ⊥) → ¬ IsBusy t w
busy_none plan t runs w is none b = let q = is.all w b.0 b.1 b.2 in none q.0 q.1 q.2 q.3

pub reads_of : (plan : PlanParts) (t : List Row) (runs : List OpenRun) (w : ℕ) (g : Tag) (r k : ℕ) (o : OpenRun) → AreOpen plan t runs → slice_get runs k ≡ Some o → is_run w g r o ≡ true → IsOpen t (length t) w g r × (o.reads ≡ reads_at plan t g r)
reads_of plan t runs w g r k o is e q =
    let z = run_is w g r o q in
    let h = is.each k o e in
    subst (λ (v : ℕ). IsOpen t (length t) v g r × (o.reads ≡ reads_at plan t g r)) z.0 (subst (λ (c : ℕ). IsOpen t (length t) o.worker g c × (o.reads ≡ reads_at plan t g c)) z.2 (subst (λ (j : Tag). IsOpen t (length t) o.worker j o.reaction × (o.reads ≡ reads_at plan t j o.reaction)) z.1 h))

pub reads_none : (plan : PlanParts) (t : List Row) (runs : List OpenRun) (w : ℕ) (g : Tag) (r : ℕ) (reads : List (Option Value)) → AreOpen plan t runs → ((k : ℕ) (o : OpenRun) → slice_get runs k ≡ Some o → is_run w g r o ≡ false) → ¬ HasReads plan t w g r reads
reads_none plan t runs w g r reads is none h = let q = is.all w g r h.0 in false≢true (sym (none q.0 q.1 q.2) ∙ is_its_run w g r q.1 q.3 q.4 q.5)

-- what holds of the first items and of the next
pub before_one_more : (runs : List OpenRun) (i : ℕ) (x : OpenRun) (P : OpenRun → Type 0) → slice_get runs i ≡ Some x → ((k : ℕ) (o : OpenRun) → k < i → slice_get runs k ≡ Some o → P o) → P x → (k : ℕ) (o : OpenRun) → k < i + 1 → slice_get runs k ≡ Some o → P o
before_one_more runs i x P is before here k o l e = go (dec_lt k i)
  where
    go : Dec (k < i) → P o
    go (yes m) = before k o m e
    go (no n) =
        let q : k ≡ i = omega arith in
        let z : Some x ≡ Some o = sym is ∙ ap (λ (j : ℕ). slice_get runs j) (sym q) ∙ e in
        let y : x ≡ o = cc in
        subst (λ (z : OpenRun). P z) y here

-- a comparison of the reads of the run that was found
pub reads_iff : (plan : PlanParts) (t : List Row) (runs : List OpenRun) (w : ℕ) (g : Tag) (r k : ℕ) (o : OpenRun) (reads : List (Option Value)) (b : Bool) → slice_get runs k ≡ Some o → is_run w g r o ≡ true → IsTrue b ↔ (o.reads ≡ reads) → AreOpen plan t runs → IsTrue b ↔ HasReads plan t w g r reads
reads_iff plan t runs w g r k o reads b e q iff is =
    let h = reads_of plan t runs w g r k o is e q in
    (λ x. (h.0, sym (iff.0 x) ∙ h.1), λ s. iff.1 (h.1 ∙ sym s.1))
