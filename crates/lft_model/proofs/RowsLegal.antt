-- The rows of each execution by one worker are a legal trace.
use Rattle.std.proofs.Common.{◌≡◌, ℕ, ◌+◌, ◌<◌, ◌≤◌, ◌⊎◌, inl, inr, List, [], ◌∷◌, length, take, map, refl, sym, ap, ◌∙◌, subst, arith, Option, Some, None, slice_get, filter_map, option_map, option_to_list, zip, unwrap_or, ◌==◌, eq-eqb, true}
use Rattle.std.specs.List.{last_or, AllZip}
use native.Mathlib.Decide.{dec_lt}
use Rattle.lft_tag.{specs.{declared.Tag.Tag, Tags.{Before, UpTo}}, proofs.Order.{UpTo-refl, UpTo-not}}
use Rattle.lft_lists.proofs.Members.{Mem, mem_get, mem_contains}
use Rattle.lft_ir.specs.Parts.{inputs}
use Rattle.lft_ir.specs.declared.parts.{Reaction.Reaction, Value.Value, Name.{Name, TheVariants.{Port, Action}}}
use Rattle.lft_ir.specs.declared.steps.row.{Row.Row, Step.{Step, TheVariants.{Start, Read, Write, Schedule, Stop, End}}}
use Rattle.lft_model.specs.{declared.breach.Breach.Breach, Plans.{PlanParts, IsSoundPlan}, Presence.{stop, Triggered, Inputs, Shows}}
use Rattle.lft_model.specs.Runs.{Run, Outcome, Ran, start_row, end_row, value_read, read_of, steps_of, inputs_of, effects_of, reads_at, steps_of_run, rows_of}
use Rattle.lft_model.specs.Runs.Outcome.{Written, Scheduled}
use Rattle.lft_model.specs.Breaches.{IsOpen, IsLate, WasStarted, IsOutOfOrder, WasRead, MayWrite, MaySchedule, IsUndeclared, IsUnended, RowBreach, TagBreach, IsTooEarly, Legal}
use Rattle.lft_model.specs.{inner.Breaches.{BreaksRow, BreaksTag, BreaksAt}, OneWorker.{HasRun, MayHave, Path, OneWorker, rows}}
use Rattle.lft_model.proofs.{Places.slice_get_within, Counted.{NamesApart, names_apart}}
use Rattle.lft_model.proofs.{RunSteps.{StepOf, step_of_run, mem_zip, StepOf.{starts, reads, writes, schedules, stops, ends}}, Agree.acyclic}
use Rattle.lft_model.proofs.Paths.{rises, one_each, none_later, run_in_time, triggered_kept, inputs_kept}
use Rattle.lft_model.proofs.Blocks.{Placed, placed, put_row, blocks, start_first, end_last, has_end, reads_shown, steps_alone, two_places}
use Rattle.lft_graph.specs.Precedence.{Precedes}

zip_related : {X Y : Type 0} (R : X → Y → Type 0) (xs : List X) (ys : List Y) (x : X) (y : Y) → AllZip R xs ys → Mem (x, y) (zip xs ys) → R x y
zip_related R [] ys x y a m = absurd m
zip_related R (z ∷ xs) [] x y a m = absurd a
zip_related {X} {Y} R (z ∷ xs) (w ∷ ys) x y a (inl e) = subst (λ (p : X × Y). R p.0 p.1) e a.0
zip_related R (z ∷ xs) (w ∷ ys) x y a (inr m) = zip_related R xs ys x y a.1 m

-- a list of what is shown of some names, told name by name
pub told : {X Y : Type 0} (R : X → Y → Type 0) (f : X → Y) (xs : List X) (ys : List Y) → AllZip R xs ys → ((x : X) (y : Y) → Mem (x, y) (zip xs ys) → f x ≡ y) → map f xs ≡ ys
told R f [] [] a t = refl
told R f [] (y ∷ ys) a t = absurd a
told R f (x ∷ xs) [] a t = absurd a
told R f (x ∷ xs) (y ∷ ys) a t = let p : f x ≡ y = t x y (inl refl) in let q : map f xs ≡ ys = told R f xs ys a.1 (λ z w m. t z w (inr m)) in ap (λ z. z ∷ map f xs) p ∙ ap (λ zs. y ∷ zs) q

pub last_option : {X : Type 0} (o : Option X) → last_or None (option_to_list o) ≡ o
last_option None = refl
last_option (Some x) = refl

module _ (plan : PlanParts) (good : IsSoundPlan plan) (l : List Run) (path : Path plan l) where
  abbrev all : List Row
  all = rows_of plan.program l

  tag_is : (i : ℕ) (x : Row) (p : Placed plan.program l i x) → p.run.tag ≡ x.tag
  tag_is i x p = ap (λ (y : Row). y.tag) p.row_is

  reaction_is : (i : ℕ) (x : Row) (p : Placed plan.program l i x) → p.run.reaction ≡ x.reaction
  reaction_is i x p = ap (λ (y : Row). y.reaction) p.row_is

  inside_block : (i : ℕ) (x : Row) (p : Placed plan.program l i x) → p.inner < length (steps_of_run plan.program p.run)
  inside_block i x p = slice_get_within (steps_of_run plan.program p.run) p.inner x.step p.is_step

  -- of two rows the earlier stands in an earlier run, or earlier in its run
  in_order : (i j : ℕ) (x y : Row) (p : Placed plan.program l i x) (q : Placed plan.program l j y) → i < j → (p.place < q.place) ⊎ ((p.place ≡ q.place) × (p.inner < q.inner))
  in_order i j x y p q b = go (dec_lt p.place q.place) (dec_lt q.place p.place)
    where
      go : Dec (p.place < q.place) → Dec (q.place < p.place) → (p.place < q.place) ⊎ ((p.place ≡ q.place) × (p.inner < q.inner))
      go (yes a) d = inl a
      go (no n) (yes a) =
          let k : length (rows_of plan.program (take q.place l)) + length (steps_of_run plan.program q.run) ≤ length (rows_of plan.program (take p.place l)) = blocks plan.program l q.place p.place q.run a q.is_run in
          let m : q.inner < length (steps_of_run plan.program q.run) = inside_block j y q in
          let e : i ≡ length (rows_of plan.program (take p.place l)) + p.inner = p.stands in
          let f : j ≡ length (rows_of plan.program (take q.place l)) + q.inner = q.stands in
          absurd (omega arith)
      go (no n) (no m) =
          let s : p.place ≡ q.place = omega arith in
          let o : length (rows_of plan.program (take p.place l)) ≡ length (rows_of plan.program (take q.place l)) = ap (λ (k : ℕ). length (rows_of plan.program (take k l))) s in
          let e : i ≡ length (rows_of plan.program (take p.place l)) + p.inner = p.stands in
          let f : j ≡ length (rows_of plan.program (take q.place l)) + q.inner = q.stands in
          inr (s, omega arith)

  same_run : (i j : ℕ) (x y : Row) (p : Placed plan.program l i x) (q : Placed plan.program l j y) → p.place ≡ q.place → p.run ≡ q.run
  same_run i j x y p q s = let z : Some p.run ≡ Some q.run = sym p.is_run ∙ ap (λ k. slice_get l k) s ∙ q.is_run in cc

  -- rows of one tag and reaction stand in one run
  one_place : (i j : ℕ) (x y : Row) (p : Placed plan.program l i x) (q : Placed plan.program l j y) → x.tag ≡ y.tag → x.reaction ≡ y.reaction → p.place ≡ q.place
  one_place i j x y p q a b = one_each plan good l path q.place p.place p.run q.run p.is_run q.is_run (tag_is i x p ∙ a ∙ sym (tag_is j y q)) (reaction_is i x p ∙ b ∙ sym (reaction_is j y q))

  -- rule 1
  not_late : (i : ℕ) (x : Row) → slice_get all i ≡ Some x → ¬ IsLate all i x
  not_late i x e late = go (in_order late.0 i late.1 x q p late.2)
    where
      p : Placed plan.program l i x
      p = placed plan.program l i x e

      q : Placed plan.program l late.0 late.1
      q = placed plan.program l late.0 late.1 late.3

      risen : UpTo q.run.tag p.run.tag → ⊥
      risen u = UpTo-not late.1.tag x.tag (subst (λ (g : Tag). UpTo g x.tag) (tag_is late.0 late.1 q) (subst (λ (g : Tag). UpTo q.run.tag g) (tag_is i x p) u)) late.4

      go : (q.place < p.place) ⊎ ((q.place ≡ p.place) × (q.inner < p.inner)) → ⊥
      go (inl b) = risen (rises plan good l path p.place q.place q.run p.run b q.is_run p.is_run)
      go (inr b) = let z : q.run ≡ p.run = same_run late.0 i late.1 x q p b.0 in risen (subst (λ (u : Run). UpTo q.run.tag u.tag) z (UpTo-refl q.run.tag))

  -- rule 2
  not_after : (i : ℕ) (x : Row) → slice_get all i ≡ Some x → ¬ Before (stop plan all) x.tag
  not_after i x e b = let p = placed plan.program l i x e in UpTo-not x.tag (stop plan all) (subst (λ (g : Tag). UpTo g (stop plan all)) (tag_is i x p) (run_in_time plan good l path p.place p.run p.is_run)) b

  -- the end row of a run
  end_place : (k : ℕ) (u : Run) → slice_get l k ≡ Some u → slice_get all (length (rows_of plan.program (take k l)) + (has_end plan.program u).0) ≡ Some (end_row 0 u.tag u.reaction)
  end_place k u e = put_row plan.program l k u (has_end plan.program u).0 End e (has_end plan.program u).1

  -- rule 3 at a row that is no start
  open_there : (i : ℕ) (x : Row) → slice_get all i ≡ Some x → ¬ (x.step ≡ Start) → IsOpen all i x.worker x.tag x.reaction
  open_there i x e other = record { start = start; before = start_before; starts = put_row plan.program l p.place p.run 0 Start p.is_run refl ∙ ap Some (ap (λ (y : Row). start_row y.worker y.tag y.reaction) p.row_is); not_ended = not_ended }
    where
      p : Placed plan.program l i x
      p = placed plan.program l i x e

      start : ℕ
      start = length (rows_of plan.program (take p.place l)) + 0

      inner_some : ¬ (p.inner ≡ 0)
      inner_some z = let s : Some Start ≡ Some x.step = ap (λ k. slice_get (steps_of_run plan.program p.run) k) (sym z) ∙ p.is_step in let y : Start ≡ x.step = cc in other (sym y)

      start_before : length (rows_of plan.program (take p.place l)) + 0 < i
      start_before = let f : i ≡ length (rows_of plan.program (take p.place l)) + p.inner = p.stands in let v : ¬ (p.inner ≡ 0) = inner_some in omega arith

      not_ended : (k : ℕ) → length (rows_of plan.program (take p.place l)) + 0 < k → k < i → ¬ (slice_get all k ≡ Some (end_row x.worker x.tag x.reaction))
      not_ended k a b f =
          let q : Placed plan.program l k (end_row x.worker x.tag x.reaction) = placed plan.program l k (end_row x.worker x.tag x.reaction) f in
          let s : q.place ≡ p.place = one_place k i (end_row x.worker x.tag x.reaction) x q p refl refl in
          let z : q.run ≡ p.run = same_run k i (end_row x.worker x.tag x.reaction) x q p s in
          let y : slice_get (steps_of_run plan.program p.run) q.inner ≡ Some End = subst (λ (u : Run). slice_get (steps_of_run plan.program u) q.inner ≡ Some End) z q.is_step in
          let m : p.inner ≤ q.inner = end_last plan.program p.run p.inner q.inner x.step y p.is_step in
          let c : k ≡ length (rows_of plan.program (take q.place l)) + q.inner = q.stands in
          let d : i ≡ length (rows_of plan.program (take p.place l)) + p.inner = p.stands in
          let o : length (rows_of plan.program (take q.place l)) ≡ length (rows_of plan.program (take p.place l)) = ap (λ (k : ℕ). length (rows_of plan.program (take k l))) s in
          let bk : k < i = b in
          omega arith

  -- rule 3 at a start row
  start_inner : (i : ℕ) (x : Row) (p : Placed plan.program l i x) → x.step ≡ Start → p.inner ≡ 0
  start_inner i x p s = start_first plan.program p.run p.inner (p.is_step ∙ ap Some s)

  not_started : (i : ℕ) (x : Row) → slice_get all i ≡ Some x → x.step ≡ Start → ¬ WasStarted all i x.tag x.reaction
  not_started i x e s w =
      let y : Row = start_row w.1 x.tag x.reaction in
      let p = placed plan.program l i x e in
      let q : Placed plan.program l w.0 (start_row w.1 x.tag x.reaction) = placed plan.program l w.0 (start_row w.1 x.tag x.reaction) w.3 in
      let k : q.place ≡ p.place = one_place w.0 i (start_row w.1 x.tag x.reaction) x q p refl refl in
      let m : p.inner ≡ 0 = start_inner i x p s in
      go p q k m (in_order w.0 i (start_row w.1 x.tag x.reaction) x q p w.2)
    where
      go : (p : Placed plan.program l i x) (q : Placed plan.program l w.0 (start_row w.1 x.tag x.reaction)) → q.place ≡ p.place → p.inner ≡ 0 → (q.place < p.place) ⊎ ((q.place ≡ p.place) × (q.inner < p.inner)) → ⊥
      go p q k m (inl b) = omega arith
      go p q k m (inr b) = let c : q.inner < p.inner = b.1 in omega arith

  none_open : (i : ℕ) (x : Row) → slice_get all i ≡ Some x → x.step ≡ Start → (g : Tag) (r : ℕ) → ¬ IsOpen all i x.worker g r
  none_open i x e s g r o = go (in_order o.start i y x q p o.before)
    where
      y : Row
      y = start_row x.worker g r

      p : Placed plan.program l i x
      p = placed plan.program l i x e

      q : Placed plan.program l o.start (start_row x.worker g r)
      q = placed plan.program l o.start (start_row x.worker g r) o.starts

      m : p.inner ≡ 0
      m = start_inner i x p s

      go : (q.place < p.place) ⊎ ((q.place ≡ p.place) × (q.inner < p.inner)) → ⊥
      go (inr b) = let c : q.inner < p.inner = b.1 in let d : p.inner ≡ 0 = m in omega arith
      go (inl b) =
          let n = has_end plan.program q.run in
          let k : length (rows_of plan.program (take q.place l)) + length (steps_of_run plan.program q.run) ≤ length (rows_of plan.program (take p.place l)) = blocks plan.program l q.place p.place q.run b q.is_run in
          let c : o.start ≡ length (rows_of plan.program (take q.place l)) + q.inner = q.stands in
          let d : i ≡ length (rows_of plan.program (take p.place l)) + p.inner = p.stands in
          let z : q.inner ≡ 0 = start_inner o.start (start_row x.worker g r) q refl in
          let w : n.0 < length (steps_of_run plan.program q.run) = slice_get_within (steps_of_run plan.program q.run) n.0 End n.1 in
          let v : ¬ (n.0 ≡ 0) = λ t. let f : Some Start ≡ Some End = ap (λ k. slice_get (steps_of_run plan.program q.run) k) (sym t) ∙ n.1 in cc in
          o.not_ended (length (rows_of plan.program (take q.place l)) + n.0) (omega arith) (omega arith) (end_place q.place q.run q.is_run ∙ ap Some (ap (λ (y : Row). end_row y.worker y.tag y.reaction) q.row_is))

  in_sequence : (i : ℕ) (x : Row) → slice_get all i ≡ Some x → (s : Step) → x.step ≡ s → ¬ IsOutOfOrder all i x s
  in_sequence i x e Start q (inl w) = not_started i x e q w
  in_sequence i x e Start q (inr o) = none_open i x e q o.0 o.1 o.2
  in_sequence i x e (Read n v) q d = d (open_there i x e (λ z. let f : Read n v ≡ Start = sym q ∙ z in cc))
  in_sequence i x e (Write n v) q d = d (open_there i x e (λ z. let f : Write n v ≡ Start = sym q ∙ z in cc))
  in_sequence i x e (Schedule n v k) q d = d (open_there i x e (λ z. let f : Schedule n v k ≡ Start = sym q ∙ z in cc))
  in_sequence i x e Stop q d = d (open_there i x e (λ z. let f : Stop ≡ Start = sym q ∙ z in cc))
  in_sequence i x e End q d = d (open_there i x e (λ z. let f : End ≡ Start = sym q ∙ z in cc))

  -- rule 4
  pub inputs_apart : (r : ℕ) → NamesApart (inputs_of plan.program r)
  inputs_apart r = go (slice_get plan.program.reactions r) refl
    where
      go : (o : Option Reaction) → slice_get plan.program.reactions r ≡ o → NamesApart (unwrap_or (option_map inputs o) [])
      go None e = tt
      go (Some x) e = names_apart (inputs x) (good.sound.distinct r x e).0

  read_once : (i : ℕ) (x : Row) → slice_get all i ≡ Some x → (n : Name) (v : Value) → x.step ≡ Read n v → (p : Placed plan.program l i x) → Mem (n, Some v) (zip (inputs_of plan.program p.run.reaction) p.run.reads) → ¬ WasRead all i x.tag x.reaction n
  read_once i x e n v s p m w = go (in_order w.0 i y x q p w.3)
    where
      y : Row
      y = record { worker = w.1; tag = x.tag; reaction = x.reaction; step = Read n w.2 }

      q : Placed plan.program l w.0 (record { worker = w.1; tag = x.tag; reaction = x.reaction; step = Read n w.2 })
      q = placed plan.program l w.0 (record { worker = w.1; tag = x.tag; reaction = x.reaction; step = Read n w.2 }) w.4

      same : q.place ≡ p.place
      same = one_place w.0 i y x q p refl refl

      seen : (v : Value) → value_read n (Read n v) ≡ Some v
      seen v = name_shown n v
        where
          name_shown : (n : Name) (v : Value) → value_read n (Read n v) ≡ Some v
          name_shown (Port p) v = let a : (p == p) ≡ true = eq-eqb p p refl in rw a refl
          name_shown (Action p) v = let a : (p == p) ≡ true = eq-eqb p p refl in rw a refl

      go : (q.place < p.place) ⊎ ((q.place ≡ p.place) × (q.inner < p.inner)) → ⊥
      go (inl b) = let c : q.place ≡ p.place = same in omega arith
      go (inr b) =
          let z : q.run ≡ p.run = same_run w.0 i y x q p same in
          let a : slice_get (steps_of_run plan.program p.run) q.inner ≡ Some (Read n w.2) = subst (λ (u : Run). slice_get (steps_of_run plan.program u) q.inner ≡ Some (Read n w.2)) z q.is_step in
          let c : 2 ≤ length (filter_map (value_read n) (steps_of_run plan.program p.run)) = two_places (value_read n) (steps_of_run plan.program p.run) q.inner p.inner (Read n w.2) (Read n v) w.2 v b.1 a (p.is_step ∙ ap Some s) (seen w.2) (seen v) in
          let d : length (filter_map (value_read n) (steps_of_run plan.program p.run)) ≡ 1 = ap length (reads_shown plan.program p.run n (Some v) (inputs_apart p.run.reaction) m) in
          omega arith

  may_write : (r : ℕ) (n : Name) (v : Value) → Mem n (effects_of plan.program r) → MayHave plan r n (Written (Some v)) → MayWrite plan.program r n
  may_write r (Port p) v m h = mem_contains (Port p) (effects_of plan.program r) m
  may_write r (Action a) v m h = absurd h

  may_schedule : (r : ℕ) (n : Name) (ss : List (ℕ × Value)) (y : ℕ × Value) → Mem y ss → MayHave plan r n (Scheduled ss) → MaySchedule plan.program r n
  may_schedule r (Port p) ss y m h = absurd h
  may_schedule r (Action a) [] y m h = absurd m
  may_schedule r (Action a) (s ∷ ss) y m (inl e) = absurd (cc)
  may_schedule r (Action a) (s ∷ ss) y m (inr h) = h

  declared : (i : ℕ) (x : Row) → slice_get all i ≡ Some x → ¬ IsUndeclared plan.program all i x x.step
  declared i x e = go (step_of_run plan.program p.run x.step (mem_get (steps_of_run plan.program p.run) p.inner x.step p.is_step))
    where
      p : Placed plan.program l i x
      p = placed plan.program l i x e

      r_is : p.run.reaction ≡ x.reaction
      r_is = reaction_is i x p

      outcome : (n : Name) (o : Outcome) → Mem (n, o) (zip (effects_of plan.program p.run.reaction) p.run.answer.outcomes) → MayHave plan p.run.reaction n o
      outcome n o m = zip_related (MayHave plan p.run.reaction) (effects_of plan.program p.run.reaction) p.run.answer.outcomes n o (path p.place p.run p.is_run).answers m

      at_step : (s : Step) → x.step ≡ s → ¬ IsUndeclared plan.program all i x s → ¬ IsUndeclared plan.program all i x x.step
      at_step s q n b = n (subst (λ (z : Step). IsUndeclared plan.program all i x z) q b)

      read_case : (n : Name) (v : Value) → x.step ≡ Read n v → Mem (n, Some v) (zip (inputs_of plan.program p.run.reaction) p.run.reads) → ¬ IsUndeclared plan.program all i x (Read n v)
      read_case n v q m (inl d) = d (mem_contains n (inputs_of plan.program x.reaction) (subst (λ (r : ℕ). Mem n (inputs_of plan.program r)) r_is (mem_zip n (Some v) (inputs_of plan.program p.run.reaction) p.run.reads m).0))
      read_case n v q m (inr w) = read_once i x e n v q p m w

      go : StepOf plan.program p.run x.step → ¬ IsUndeclared plan.program all i x x.step
      go (starts q) = at_step Start q (λ b. b)
      go (stops q) = at_step Stop q (λ b. b)
      go (ends q) = at_step End q (λ b. b)
      go (reads q) = at_step (Read q.name q.value) q.is_step (read_case q.name q.value q.is_step q.is_read)
      go (writes q) = at_step (Write q.name q.value) q.is_step (λ b. b (subst (λ (r : ℕ). MayWrite plan.program r q.name) r_is (may_write p.run.reaction q.name q.value (mem_zip q.name (Written (Some q.value)) (effects_of plan.program p.run.reaction) p.run.answer.outcomes q.is_outcome).0 (outcome q.name (Written (Some q.value)) q.is_outcome))))
      go (schedules q) = at_step (Schedule q.name q.value q.extra) q.is_step (λ b. b (subst (λ (r : ℕ). MaySchedule plan.program r q.name) r_is (may_schedule p.run.reaction q.name q.list (q.extra, q.value) q.is_in (outcome q.name (Scheduled q.list) q.is_outcome))))

  -- rule 5
  ended : (i : ℕ) (x : Row) → slice_get all i ≡ Some x → ¬ IsUnended all i x
  ended i x e b =
      let p = placed plan.program l i x e in
      let m : p.inner ≡ 0 = start_inner i x p b.0 in
      let n = has_end plan.program p.run in
      let d : i ≡ length (rows_of plan.program (take p.place l)) + p.inner = p.stands in
      let v : ¬ (n.0 ≡ 0) = λ t. let f : Some Start ≡ Some End = ap (λ k. slice_get (steps_of_run plan.program p.run) k) (sym t) ∙ n.1 in cc in
      b.1 (length (rows_of plan.program (take p.place l)) + n.0) (omega arith) (end_place p.place p.run p.is_run ∙ ap Some (ap (λ (y : Row). end_row y.worker y.tag y.reaction) p.row_is))

  keeps_rows : (b : Breach) → ¬ RowBreach plan all b
  keeps_rows b o = go o.breaks
    where
      go : BreaksRow plan all o.place o.row b.rule → ⊥
      go (inl q) = not_late o.place o.row o.is_row q.1
      go (inr (inl q)) = not_after o.place o.row o.is_row q.1
      go (inr (inr (inl q))) = in_sequence o.place o.row o.is_row o.row.step refl q.1
      go (inr (inr (inr (inl q)))) = declared o.place o.row o.is_row q.1
      go (inr (inr (inr (inr q)))) = ended o.place o.row o.is_row q.1

  -- a run of r at g among the rows is one of the runs
  pub record RunOf (g : Tag) (r : ℕ) : Type 0 where
    pub place : ℕ
    pub run : Run
    pub is_run : slice_get l place ≡ Some run
    pub tag_is : run.tag ≡ g
    pub reaction_is : run.reaction ≡ r

  ran_run : (g : Tag) (r : ℕ) → Ran all g r → RunOf g r
  ran_run g r o = let p = placed plan.program l o.place (start_row o.worker g r) o.starts in record { place = p.place; run = p.run; is_run = p.is_run; tag_is = tag_is o.place (start_row o.worker g r) p; reaction_is = reaction_is o.place (start_row o.worker g r) p }

  run_ran : (g : Tag) (r : ℕ) → HasRun l g r → Ran all g r
  run_ran g r h = record { place = length (rows_of plan.program (take h.place l)) + 0; worker = 0; starts = put_row plan.program l h.place h.run 0 Start h.is_run refl ∙ ap (λ (k : Tag). Some (start_row 0 k h.run.reaction)) h.same_tag ∙ ap (λ (c : ℕ). Some (start_row 0 g c)) h.same_reaction }

  -- rule 9
  not_early : (g : Tag) (r : ℕ) → Ran all g r → ¬ IsTooEarly plan all g r
  not_early g r o t = go (dec_lt first.place second.place) (dec_lt second.place first.place)
    where
      first : RunOf g t.earlier
      first = ran_run g t.earlier t.earlier_ran

      second : RunOf g r
      second = ran_run g r o

      precedes : Precedes plan.program first.run.reaction second.run.reaction
      precedes = subst (λ (c : ℕ). Precedes plan.program c second.run.reaction) (sym first.reaction_is) (subst (λ (c : ℕ). Precedes plan.program t.earlier c) (sym second.reaction_is) t.precedes)

      go : Dec (first.place < second.place) → Dec (second.place < first.place) → ⊥
      go (yes b) d =
          let n = has_end plan.program first.run in
          let k : length (rows_of plan.program (take first.place l)) + length (steps_of_run plan.program first.run) ≤ length (rows_of plan.program (take second.place l)) = blocks plan.program l first.place second.place first.run b first.is_run in
          let w : n.0 < length (steps_of_run plan.program first.run) = slice_get_within (steps_of_run plan.program first.run) n.0 End n.1 in
          t.not_ended (record {
            ended_at = length (rows_of plan.program (take first.place l)) + n.0;
            started_at = length (rows_of plan.program (take second.place l)) + 0;
            worker = 0;
            other = 0;
            ends = end_place first.place first.run first.is_run ∙ ap (λ (h : Tag). Some (end_row 0 h first.run.reaction)) first.tag_is ∙ ap (λ (c : ℕ). Some (end_row 0 g c)) first.reaction_is;
            starts = put_row plan.program l second.place second.run 0 Start second.is_run refl ∙ ap (λ (h : Tag). Some (start_row 0 h second.run.reaction)) second.tag_is ∙ ap (λ (c : ℕ). Some (start_row 0 g c)) second.reaction_is;
            before = omega arith;
          })
      go (no n) (yes b) = none_later plan good l path first.place second.place second.run first.run b second.is_run first.is_run (second.tag_is ∙ sym first.tag_is) precedes
      go (no n) (no m) =
          let s : first.place ≡ second.place = omega arith in
          let z : Some first.run ≡ Some second.run = sym first.is_run ∙ ap (λ k. slice_get l k) s ∙ second.is_run in
          let y : first.run ≡ second.run = cc in
          acyclic plan good second.run.reaction (subst (λ (u : Run). Precedes plan.program u.reaction second.run.reaction) y precedes)

  -- the reads of a run among the rows are its own
  pub own_steps : (k : ℕ) (u : Run) → slice_get l k ≡ Some u → steps_of all u.tag u.reaction ≡ steps_of_run plan.program u
  own_steps k u e = steps_alone plan.program l k u e (λ j w f p q. one_each plan good l path k j w u f e p q)

  own_reads : (k : ℕ) (u : Run) → slice_get l k ≡ Some u → reads_at plan all u.tag u.reaction ≡ u.reads
  own_reads k u e = ap (λ (ss : List Step). map (read_of ss) (inputs_of plan.program u.reaction)) (own_steps k u e) ∙ from (path k u e).reads
    where
      shown : (n : Name) (o : Option Value) → Mem (n, o) (zip (inputs_of plan.program u.reaction) u.reads) → read_of (steps_of_run plan.program u) n ≡ o
      shown n o m = ap (λ (vs : List Value). last_or None vs) (reads_shown plan.program u n o (inputs_apart u.reaction) m) ∙ last_option o

      from : Inputs plan (rows plan (take k l)) u.tag u.reaction u.reads → map (read_of (steps_of_run plan.program u)) (inputs_of plan.program u.reaction) ≡ u.reads
      from i =
          let q : inputs_of plan.program u.reaction ≡ inputs i.reaction = ap (λ (o : Option Reaction). unwrap_or (option_map inputs o) []) i.is_reaction in
          told (Shows plan (rows plan (take k l)) u.tag) (read_of (steps_of_run plan.program u)) (inputs_of plan.program u.reaction) u.reads (subst (λ (ns : List Name). AllZip (Shows plan (rows plan (take k l)) u.tag) ns u.reads) (sym q) i.each) shown

-- the second half of the law
pub rows_legal : (plan : PlanParts) (good : IsSoundPlan plan) (l : List Run) → OneWorker plan l → Legal plan (rows plan l)
rows_legal plan good l one = record { rows = keeps_rows plan good l one.path; tags = keeps_tags }
  where
    t : List Row
    t = rows plan l

    triggered : (g : Tag) (r : ℕ) → RunOf plan good l one.path g r → Triggered plan (rows plan l) g r
    triggered g r o = subst (λ (c : ℕ). Triggered plan (rows plan l) g c) o.reaction_is (subst (λ (h : Tag). Triggered plan (rows plan l) h o.run.reaction) o.tag_is (triggered_kept plan good l one.path o.place o.run o.is_run))

    reads_well : (g : Tag) (r : ℕ) → RunOf plan good l one.path g r → Inputs plan (rows plan l) g r (reads_at plan (rows plan l) g r)
    reads_well g r o =
        let i : Inputs plan (rows plan l) o.run.tag o.run.reaction (reads_at plan (rows plan l) o.run.tag o.run.reaction) = subst (λ (os : List (Option Value)). Inputs plan (rows plan l) o.run.tag o.run.reaction os) (sym (own_reads plan good l one.path o.place o.run o.is_run)) (inputs_kept plan good l one.path o.place o.run o.is_run) in
        subst (λ (c : ℕ). Inputs plan (rows plan l) g c (reads_at plan (rows plan l) g c)) o.reaction_is (subst (λ (h : Tag). Inputs plan (rows plan l) h o.run.reaction (reads_at plan (rows plan l) h o.run.reaction)) o.tag_is i)

    by_reaction : (g : Tag) (r k : ℕ) → UpTo g (stop plan (rows plan l)) → BreaksTag plan (rows plan l) g r k → ⊥
    by_reaction g r k u (inl q) = one.finished g r (record { in_time = u; triggered = q.1; no_run = λ h. q.2 (run_ran plan good l one.path g r h) })
    by_reaction g r k u (inr (inl q)) = q.2 (triggered g r (ran_run plan good l one.path g r q.1))
    by_reaction g r k u (inr (inr (inl q))) = not_early plan good l one.path g r q.1 q.2
    by_reaction g r k u (inr (inr (inr q))) = q.2 (reads_well g r (ran_run plan good l one.path g r q.1))

    by : (g : Tag) (o : Option ℕ) (k : ℕ) → UpTo g (stop plan (rows plan l)) → BreaksAt plan (rows plan l) g o k → ⊥
    by g None k u q = one.no_clash g u q.1
    by g (Some r) k u q = by_reaction g r k u q

    keeps_tags : (b : Breach) → ¬ TagBreach plan (rows plan l) b
    keeps_tags b o = by b.tag b.reaction b.rule o.in_time o.breaks
