-- The rows of the runs that ended before a place of a trace, beside the trace itself.
use Rattle.std.proofs.Common.{◌≡◌, ℕ, ◌+◌, ◌<◌, ◌⊎◌, inl, inr, List, length, take, refl, sym, ap, ◌∙◌, subst, arith, Option, Some, None, Bool, true, false, cond, slice_get, filter_map, option_and_then}
use Rattle.std.{specs.List.last_or, proofs.lemmas.List.take_all}
use Rattle.lft_tag.{specs.{declared.Tag.Tag, Tags.{UpTo, same_tag, after}}, proofs.Order.{same_tag_refl, same_tag_true}}
use Rattle.lft_lists.proofs.Members.{Mem, mem_get, get_mem, mem_left, mem_right, mem_cases, mem_map, mem_from_map, mem_filter, mem_from_filter, mem_flat, mem_from_flat, last_mem, last_of_mem, mem_contains, contains_mem}
use Rattle.lft_ir.specs.declared.parts.{Value.Value, Name.{Name, TheVariants.{Port, Action}}}
use Rattle.lft_ir.specs.declared.steps.row.{Row.Row, Step.{Step, TheVariants.{Start, Read, Write, Schedule, Stop, End}}}
use Rattle.lft_model.specs.Plans.{PlanParts}
use Rattle.lft_model.specs.Presence.{written, value_written, scheduled, value_scheduled, given, min_delay, events_of, Last, IsWrittenFrom, IsPresent, asked, requests, stop}
use Rattle.lft_model.specs.Runs.{Run, end_row, steps_of, effects_of, reads_at, run_at, ended_by, by_ends, steps_of_run, rows_of_run, rows_of}
use Rattle.lft_model.proofs.{Places.{slice_get_take, slice_get_taken}, Stops.{ask, asked_some, stop_more}}
use Rattle.lft_model.proofs.Steps.{OwnStep, own_step, RowOf, step_mem, written_some, some_written, scheduled_some}
use Rattle.lft_model.proofs.Steps.OwnStep.{starts, reads, writes, schedules, stops, ends}

-- the runs of t that ended before place i
abbrev pub ended_before : PlanParts → List Row → ℕ → List Run
ended_before plan t i = filter_map (λ row. ended_by plan t row row.step) (take i t)

-- all runs that have ended are those that ended before the end of the rows
pub all_ended : (plan : PlanParts) (t : List Row) → by_ends plan t ≡ ended_before plan t (length t)
all_ended plan t = ap (λ rs. filter_map (λ row. ended_by plan t row row.step) rs) (sym (take_all (length t) t (omega arith)))

pub record OwnRow {Y : Type 0} (plan : PlanParts) (t : List Row) (f : Row → Option Y) (i : ℕ) (y : Y) : Type 0 where
  pub place : ℕ
  pub worker : ℕ
  pub tag : Tag
  pub reaction : ℕ
  pub step : Step
  pub is_before : place < i
  pub is_end : slice_get t place ≡ Some (end_row worker tag reaction)
  pub is_step : Mem step (steps_of_run plan.program (run_at plan t tag reaction))
  pub gives : f (record { worker = 0; tag = tag; reaction = reaction; step = step }) ≡ Some y

pub ended_some : (plan : PlanParts) (t : List Row) (row : Row) (s : Step) (u : Run) → ended_by plan t row s ≡ Some u → (s ≡ End) × (run_at plan t row.tag row.reaction ≡ u)
ended_some plan t row Start u e = absurd (cc)
ended_some plan t row (Read n v) u e = absurd (cc)
ended_some plan t row (Write n v) u e = absurd (cc)
ended_some plan t row (Schedule n v d) u e = absurd (cc)
ended_some plan t row Stop u e = absurd (cc)
ended_some plan t row End u e = (refl, cc)

pub row_is : (x : Row) (w : ℕ) (g : Tag) (r : ℕ) (s : Step) → x.worker ≡ w → x.tag ≡ g → x.reaction ≡ r → x.step ≡ s → x ≡ record { worker = w; tag = g; reaction = r; step = s }
row_is x w g r s p q k m = row_of p q k m
  where
    row_of : {w v : ℕ} {g h : Tag} {r a : ℕ} {s z : Step} → w ≡ v → g ≡ h → r ≡ a → s ≡ z → (let x : Row = record { worker = w; tag = g; reaction = r; step = s } in let y : Row = record { worker = v; tag = h; reaction = a; step = z } in x ≡ y)
    row_of p q l m = cc

pub own_row : {Y : Type 0} (plan : PlanParts) (t : List Row) (f : Row → Option Y) (i : ℕ) (y : Y) → Mem y (filter_map f (rows_of plan.program (ended_before plan t i))) → OwnRow plan t f i y
own_row plan t f i y m =
    let a = mem_from_filter f (rows_of plan.program (ended_before plan t i)) y m in
    let b = mem_from_flat (rows_of_run plan.program) (ended_before plan t i) a.0 a.1 in
    let d = mem_from_filter (λ row. ended_by plan t row row.step) (take i t) b.0 b.1 in
    let e = ended_some plan t d.0 d.0.step b.0 d.2 in
    let n : Mem a.0 (rows_of_run plan.program (run_at plan t d.0.tag d.0.reaction)) = subst (λ (u : Run). Mem a.0 (rows_of_run plan.program u)) (sym e.1) b.2 in
    let k = mem_from_map (λ (s : Step). let r : Row = record { worker = 0; tag = d.0.tag; reaction = d.0.reaction; step = s } in r) (steps_of_run plan.program (run_at plan t d.0.tag d.0.reaction)) a.0 n in
    let g = get_mem d.0 (take i t) d.1 in
    let p = slice_get_take i t g.0 d.0 g.1 in
    record { place = g.0; worker = d.0.worker; tag = d.0.tag; reaction = d.0.reaction; step = k.0; is_before = p.0; is_end = p.1 ∙ ap Some (row_is d.0 d.0.worker d.0.tag d.0.reaction End refl refl refl e.0); is_step = k.1; gives = ap f k.2 ∙ a.2 }

pub row_own : {Y : Type 0} (plan : PlanParts) (t : List Row) (f : Row → Option Y) (i : ℕ) (y : Y) → OwnRow plan t f i y → Mem y (filter_map f (rows_of plan.program (ended_before plan t i)))
row_own plan t f i y o =
    let u : Run = run_at plan t o.tag o.reaction in
    let e : Row = end_row o.worker o.tag o.reaction in
    let x : Row = record { worker = 0; tag = o.tag; reaction = o.reaction; step = o.step } in
    let a : Mem e (take i t) = mem_get (take i t) o.place e (slice_get_taken i t o.place e o.is_before o.is_end) in
    let b : Mem u (ended_before plan t i) = mem_filter (λ row. ended_by plan t row row.step) e u (take i t) a refl in
    let c : Mem x (rows_of_run plan.program u) = mem_map (λ (s : Step). let r : Row = record { worker = 0; tag = o.tag; reaction = o.reaction; step = s } in r) o.step (steps_of_run plan.program u) o.is_step in
    mem_filter f x y (rows_of plan.program (ended_before plan t i)) (mem_flat (rows_of_run plan.program) u x (ended_before plan t i) b c) o.gives

-- what a row writes and schedules, by its tag and its step
pub written_by : (h : Tag) (p : ℕ) (row : Row) (v : Value) → written h p row ≡ Some v → (row.tag ≡ h) × (value_written p row.step ≡ Some v)
written_by h p row v e = go (same_tag h row.tag) refl e
  where
    go : (b : Bool) → same_tag h row.tag ≡ b → cond b (value_written p row.step) None ≡ Some v → (row.tag ≡ h) × (value_written p row.step ≡ Some v)
    go true q e = (sym (same_tag_true h row.tag q), e)
    go false q e = absurd (cc)

pub by_written : (h : Tag) (p : ℕ) (row : Row) (v : Value) → row.tag ≡ h → value_written p row.step ≡ Some v → written h p row ≡ Some v
by_written h p row v q e = let a : same_tag h row.tag ≡ true = same_tag_refl h row.tag (sym q) in rw a e

pub record Schedules (g : Tag) (a min : ℕ) (h : Tag) (s : Step) (v : Value) : Type 0 where
  pub extra : ℕ
  pub arrives : after h (min + extra) ≡ g
  pub value_is : value_scheduled a s ≡ Some (extra, v)

pub scheduled_by : (g : Tag) (a min : ℕ) (row : Row) (v : Value) → scheduled g a min row ≡ Some v → Schedules g a min row.tag row.step v
scheduled_by g a min row v e = go (value_scheduled a row.step) refl e
  where
    inner : (x : ℕ × Value) → value_scheduled a row.step ≡ Some x → (b : Bool) → same_tag g (after row.tag (min + x.0)) ≡ b → cond b (Some x.1) None ≡ Some v → Schedules g a min row.tag row.step v
    inner x q true p e = let w : x.1 ≡ v = cc in record { extra = x.0; arrives = sym (same_tag_true g (after row.tag (min + x.0)) p); value_is = q ∙ ap (λ (z : Value). Some (x.0, z)) w }
    inner x q false p e = absurd (cc)

    go : (o : Option (ℕ × Value)) → value_scheduled a row.step ≡ o → option_and_then (λ x. cond (same_tag g (after row.tag (min + x.0))) (Some x.1) None) o ≡ Some v → Schedules g a min row.tag row.step v
    go None q e = absurd (cc)
    go (Some x) q e = inner x q (same_tag g (after row.tag (min + x.0))) refl e

pub by_scheduled : (g : Tag) (a min : ℕ) (row : Row) (v : Value) → Schedules g a min row.tag row.step v → scheduled g a min row ≡ Some v
by_scheduled g a min row v s =
    let p : same_tag g (after row.tag (min + s.extra)) ≡ true = same_tag_refl g (after row.tag (min + s.extra)) (sym s.arrives) in
    let q : value_scheduled a row.step ≡ Some (s.extra, v) = s.value_is in
    rw (q, p) refl

module _ (plan : PlanParts) (t : List Row) (i : ℕ) where
  abbrev own_rows : List Row
  own_rows = rows_of plan.program (ended_before plan t i)

  -- what the ended runs scheduled was scheduled in the trace
  scheduled_down : (g : Tag) (a min : ℕ) (v : Value) → Mem v (filter_map (scheduled g a min) own_rows) → Mem v (filter_map (scheduled g a min) t)
  scheduled_down g a min v m = go (own_row plan t (scheduled g a min) i v m)
    where
      found : (h : Tag) (c : ℕ) (s : Step) → Schedules g a min h s v → (x : Step) → Mem x (steps_of t h c) → value_scheduled a x ≡ value_scheduled a s → Mem v (filter_map (scheduled g a min) t)
      found h c s k x n e =
          let r = step_mem t h c x n in
          let z : value_scheduled a r.row.step ≡ Some (k.extra, v) = ap (λ (y : Step). value_scheduled a y) r.step_is ∙ e ∙ k.value_is in
          let w : after r.row.tag (min + k.extra) ≡ g = ap (λ (y : Tag). after y (min + k.extra)) r.tag_is ∙ k.arrives in
          mem_filter (scheduled g a min) r.row v t (mem_get t r.place r.row r.is_row) (by_scheduled g a min r.row v (record { extra = k.extra; arrives = w; value_is = z }))

      by_kind : (h : Tag) (c : ℕ) (s : Step) → Schedules g a min h s v → OwnStep (effects_of plan.program c) (steps_of t h c) s → Mem v (filter_map (scheduled g a min) t)
      by_kind h c s k (starts e) = let z : value_scheduled a Start ≡ Some (k.extra, v) = ap (λ (y : Step). value_scheduled a y) (sym e) ∙ k.value_is in absurd (cc)
      by_kind h c s k (ends e) = let z : value_scheduled a End ≡ Some (k.extra, v) = ap (λ (y : Step). value_scheduled a y) (sym e) ∙ k.value_is in absurd (cc)
      by_kind h c s k (stops e m) = let z : value_scheduled a Stop ≡ Some (k.extra, v) = ap (λ (y : Step). value_scheduled a y) (sym e) ∙ k.value_is in absurd (cc)
      by_kind h c s k (reads n w e) = let z : value_scheduled a (Read n w) ≡ Some (k.extra, v) = ap (λ (y : Step). value_scheduled a y) (sym e) ∙ k.value_is in absurd (cc)
      by_kind h c s k (writes o) = let z : value_scheduled a (Write (Port o.port) o.value) ≡ Some (k.extra, v) = ap (λ (y : Step). value_scheduled a y) (sym o.is_step) ∙ k.value_is in absurd (cc)
      by_kind h c s k (schedules o) =
          let f = mem_from_filter (value_scheduled o.action) (steps_of t h c) (o.extra, o.value) o.is_scheduled in
          let x : f.0 ≡ s = scheduled_some o.action f.0 (o.extra, o.value) f.2 ∙ sym o.is_step in
          found h c s k f.0 f.1 (ap (λ (y : Step). value_scheduled a y) x)

      go : OwnRow plan t (scheduled g a min) i v → Mem v (filter_map (scheduled g a min) t)
      go o = by_kind o.tag o.reaction o.step (scheduled_by g a min (record { worker = 0; tag = o.tag; reaction = o.reaction; step = o.step }) v o.gives) (own_step plan.program t o.tag o.reaction (reads_at plan t o.tag o.reaction) o.step o.is_step)

  -- the stops that the ended runs asked for were asked for in the trace, so their stop is no earlier
  asked_down : (k : Tag) → Mem k (requests own_rows) → Mem k (requests t)
  asked_down k m = go (own_row plan t (λ (row : Row). asked row.tag row.step) i k m)
    where
      by_kind : (h : Tag) (c : ℕ) (s : Step) → asked h s ≡ Some k → OwnStep (effects_of plan.program c) (steps_of t h c) s → Mem k (requests t)
      by_kind h c s e (starts q) = let z : asked h Start ≡ Some k = ap (λ (y : Step). asked h y) (sym q) ∙ e in absurd (cc)
      by_kind h c s e (ends q) = let z : asked h End ≡ Some k = ap (λ (y : Step). asked h y) (sym q) ∙ e in absurd (cc)
      by_kind h c s e (reads n w q) = let z : asked h (Read n w) ≡ Some k = ap (λ (y : Step). asked h y) (sym q) ∙ e in absurd (cc)
      by_kind h c s e (writes o) = let z : asked h (Write (Port o.port) o.value) ≡ Some k = ap (λ (y : Step). asked h y) (sym o.is_step) ∙ e in absurd (cc)
      by_kind h c s e (schedules o) = let z : asked h (Schedule (Action o.action) o.value o.extra) ≡ Some k = ap (λ (y : Step). asked h y) (sym o.is_step) ∙ e in absurd (cc)
      by_kind h c s e (stops q n) =
          let r = step_mem t h c Stop n in
          subst (λ (g : Tag). Mem g (requests t)) (ap (λ (g : Tag). after g 0) r.tag_is ∙ (asked_some h s k e).1) (ask t r.row (mem_get t r.place r.row r.is_row) r.step_is)

      go : OwnRow plan t (λ (row : Row). asked row.tag row.step) i k → Mem k (requests t)
      go o = by_kind o.tag o.reaction o.step o.gives (own_step plan.program t o.tag o.reaction (reads_at plan t o.tag o.reaction) o.step o.is_step)

  pub stop_down : UpTo (stop plan t) (stop plan own_rows)
  stop_down = stop_more plan own_rows t asked_down

  -- what the ended runs wrote was written by a run that ended
  pub record WroteEnded (h : Tag) (p : ℕ) (v : Value) : Type 0 where
    pub place : ℕ
    pub worker : ℕ
    pub reaction : ℕ
    pub is_before : place < i
    pub is_end : slice_get t place ≡ Some (end_row worker h reaction)
    pub is_effect : Mem (Port p) (effects_of plan.program reaction)
    pub is_last : last_or None (filter_map (value_written p) (steps_of t h reaction)) ≡ Some v

  pub wrote_step : (c : ℕ) (h : Tag) (s : Step) (p : ℕ) (v : Value) → value_written p s ≡ Some v → OwnStep (effects_of plan.program c) (steps_of t h c) s → Mem (Port p) (effects_of plan.program c) × (last_or None (filter_map (value_written p) (steps_of t h c)) ≡ Some v)
  wrote_step c h s p v k (starts e) = let z : value_written p Start ≡ Some v = ap (λ (y : Step). value_written p y) (sym e) ∙ k in absurd (cc)
  wrote_step c h s p v k (ends e) = let z : value_written p End ≡ Some v = ap (λ (y : Step). value_written p y) (sym e) ∙ k in absurd (cc)
  wrote_step c h s p v k (stops e m) = let z : value_written p Stop ≡ Some v = ap (λ (y : Step). value_written p y) (sym e) ∙ k in absurd (cc)
  wrote_step c h s p v k (reads n w e) = let z : value_written p (Read n w) ≡ Some v = ap (λ (y : Step). value_written p y) (sym e) ∙ k in absurd (cc)
  wrote_step c h s p v k (schedules o) = let z : value_written p (Schedule (Action o.action) o.value o.extra) ≡ Some v = ap (λ (y : Step). value_written p y) (sym o.is_step) ∙ k in absurd (cc)
  wrote_step c h s p v k (writes o) =
      let e : Write (Port o.port) o.value ≡ Write (Port p) v = sym o.is_step ∙ written_some p s v k in
      let a : o.port ≡ p = cc in
      let b : o.value ≡ v = cc in
      (subst (λ (q : ℕ). Mem (Port q) (effects_of plan.program c)) a o.is_effect, ap (λ (q : ℕ). last_or None (filter_map (value_written q) (steps_of t h c))) (sym a) ∙ o.is_last ∙ ap Some b)

  pub wrote_down : (h : Tag) (p : ℕ) (v : Value) → Mem v (filter_map (written h p) own_rows) → WroteEnded h p v
  wrote_down h p v m = go (own_row plan t (written h p) i v m)
    where
      at_tag : (o : OwnRow plan t (written h p) i v) → o.tag ≡ h → value_written p o.step ≡ Some v → WroteEnded h p v
      at_tag o e k =
          let z = wrote_step o.reaction o.tag o.step p v k (own_step plan.program t o.tag o.reaction (reads_at plan t o.tag o.reaction) o.step o.is_step) in
          record { place = o.place; worker = o.worker; reaction = o.reaction; is_before = o.is_before; is_end = o.is_end ∙ ap (λ (g : Tag). Some (end_row o.worker g o.reaction)) e; is_effect = z.0; is_last = ap (λ (g : Tag). last_or None (filter_map (value_written p) (steps_of t g o.reaction))) (sym e) ∙ z.1 }

      go : OwnRow plan t (written h p) i v → WroteEnded h p v
      go o = let r = written_by h p (record { worker = 0; tag = o.tag; reaction = o.reaction; step = o.step }) v o.gives in at_tag o r.0 r.1

  -- a write of a run is a row of the trace
  pub row_of_write : (h : Tag) (p c : ℕ) (v : Value) → last_or None (filter_map (value_written p) (steps_of t h c)) ≡ Some v → (r : RowOf t h c (Write (Port p) v)) × (written h p r.row ≡ Some v)
  row_of_write h p c v e =
      let m = last_mem (filter_map (value_written p) (steps_of t h c)) v e in
      let f = mem_from_filter (value_written p) (steps_of t h c) v m in
      let n : Mem (Write (Port p) v) (steps_of t h c) = subst (λ (y : Step). Mem y (steps_of t h c)) (written_some p f.0 v f.2) f.1 in
      let r = step_mem t h c (Write (Port p) v) n in
      (r, by_written h p r.row v r.tag_is (ap (λ (y : Step). value_written p y) r.step_is ∙ some_written p v))

  -- what is present by the ended runs is present in the trace
  last_down : (h : Tag) (p : ℕ) (v : Value) → Last own_rows h p v → (w : Value) × Last t h p w
  last_down h p v e =
      let o = wrote_down h p v (last_mem (filter_map (written h p) own_rows) v e) in
      let r = row_of_write h p o.reaction v o.is_last in
      last_of_mem v (filter_map (written h p) t) (mem_filter (written h p) r.0.row v t (mem_get t r.0.place r.0.row r.0.is_row) r.1)

  pub written_down : (g : Tag) (p : ℕ) (h : Tag) (v : Value) → IsWrittenFrom plan own_rows g p h v → (w : Value) × IsWrittenFrom plan t g p h w
  written_down g p h v o = let r = last_down h o.origin v o.is_last in (r.0, record { origin = o.origin; delays = o.delays; is_origin = o.is_origin; arrives = o.arrives; is_last = r.1 })

  pub events_down : (g : Tag) (a : ℕ) (v : Value) → Mem v (events_of plan own_rows g a) → Mem v (events_of plan t g a)
  events_down g a v m = go (mem_cases v (filter_map (scheduled g a (min_delay plan.program a)) own_rows) (filter_map (given g a) plan.externals.events) m)
    where
      go : Mem v (filter_map (scheduled g a (min_delay plan.program a)) own_rows) ⊎ Mem v (filter_map (given g a) plan.externals.events) → Mem v (events_of plan t g a)
      go (inl n) = mem_left v (filter_map (scheduled g a (min_delay plan.program a)) t) (filter_map (given g a) plan.externals.events) (scheduled_down g a (min_delay plan.program a) v n)
      go (inr n) = mem_right v (filter_map (scheduled g a (min_delay plan.program a)) t) (filter_map (given g a) plan.externals.events) n

  pub present_down : (g : Tag) (n : Name) → IsPresent plan own_rows g n → IsPresent plan t g n
  present_down g (Port p) o = let r = written_down g p o.1.0 o.0 o.1.1 in (r.0, (o.1.0, r.1))
  present_down g (Action a) o = (o.0, mem_contains o.0 (events_of plan t g a) (events_down g a o.0 (contains_mem o.0 (events_of plan own_rows g a) o.1)))
