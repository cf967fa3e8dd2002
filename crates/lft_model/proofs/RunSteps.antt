-- The steps of the rows of any run.
use Rattle.std.proofs.Common.{◌≡◌, ℕ, ◌⊎◌, inl, inr, List, [], ◌∷◌, ◌++◌, sym, ap, subst, Option, Some, None, Bool, true, false, filter_map, flat_map, option_map, zip}
use Rattle.lft_lists.proofs.Members.{Mem, mem_cases, mem_from_map, mem_from_filter, mem_from_flat}
use Rattle.lft_ir.specs.Parts.{Parts}
use Rattle.lft_ir.specs.declared.{parts.{Value.Value, Name.Name}, steps.row.{Row.Row, Step.{Step, TheVariants.{Start, Read, Write, Schedule, Stop, End}}}}
use Rattle.lft_model.specs.Runs.{Run, Outcome, inputs_of, effects_of, read_step, write_step, write_step_of, schedule_steps, schedule_steps_of, closing_steps, steps_of_run, rows_of_run, rows_of}
use Rattle.lft_model.specs.Runs.Outcome.{Written, Scheduled}

pub mem_zip : {X Y : Type 0} (x : X) (y : Y) (xs : List X) (ys : List Y) → Mem (x, y) (zip xs ys) → Mem x xs × Mem y ys
mem_zip x y [] ys m = absurd m
mem_zip x y (a ∷ xs) [] m = absurd m
mem_zip {X} {Y} x y (a ∷ xs) (b ∷ ys) (inl e) = (inl (ap (λ (p : X × Y). p.0) e), inl (ap (λ (p : X × Y). p.1) e))
mem_zip x y (a ∷ xs) (b ∷ ys) (inr m) = let r = mem_zip x y xs ys m in (inr r.0, inr r.1)

pub record ReadOf (program : Parts) (u : Run) (s : Step) : Type 0 where
  pub name : Name
  pub value : Value
  pub is_step : s ≡ Read name value
  pub is_read : Mem (name, Some value) (zip (inputs_of program u.reaction) u.reads)

pub record WriteOf (program : Parts) (u : Run) (s : Step) : Type 0 where
  pub name : Name
  pub value : Value
  pub is_step : s ≡ Write name value
  pub is_outcome : Mem (name, Written (Some value)) (zip (effects_of program u.reaction) u.answer.outcomes)

pub record ScheduleOf (program : Parts) (u : Run) (s : Step) : Type 0 where
  pub name : Name
  pub extra : ℕ
  pub value : Value
  pub list : List (ℕ × Value)
  pub is_step : s ≡ Schedule name value extra
  pub is_outcome : Mem (name, Scheduled list) (zip (effects_of program u.reaction) u.answer.outcomes)
  pub is_in : Mem (extra, value) list

-- what a step of a run's rows is
pub data StepOf (program : Parts) (u : Run) (s : Step) : Type 0 where
  starts : s ≡ Start → StepOf program u s
  reads : ReadOf program u s → StepOf program u s
  writes : WriteOf program u s → StepOf program u s
  schedules : ScheduleOf program u s → StepOf program u s
  stops : s ≡ Stop → StepOf program u s
  ends : s ≡ End → StepOf program u s

module _ (program : Parts) (u : Run) where
  abbrev pub read_part : List Step
  read_part = filter_map read_step (zip (inputs_of program u.reaction) u.reads)

  abbrev pub write_part : List Step
  write_part = filter_map write_step (zip (effects_of program u.reaction) u.answer.outcomes)

  abbrev pub schedule_part : List Step
  schedule_part = flat_map schedule_steps (zip (effects_of program u.reaction) u.answer.outcomes)

  pub in_reads : (s : Step) → Mem s read_part → ReadOf program u s
  in_reads s m = let r = mem_from_filter read_step (zip (inputs_of program u.reaction) u.reads) s m in go r.0.0 r.0.1 r.1 r.2
    where
      go : (n : Name) (o : Option Value) → Mem (n, o) (zip (inputs_of program u.reaction) u.reads) → option_map (λ v. Read n v) o ≡ Some s → ReadOf program u s
      go n None m e = absurd (cc)
      go n (Some v) m e = let q : Read n v ≡ s = cc in record { name = n; value = v; is_step = sym q; is_read = m }

  pub in_writes : (s : Step) → Mem s write_part → WriteOf program u s
  in_writes s m = let r = mem_from_filter write_step (zip (effects_of program u.reaction) u.answer.outcomes) s m in go r.0.0 r.0.1 r.1 r.2
    where
      go : (n : Name) (o : Outcome) → Mem (n, o) (zip (effects_of program u.reaction) u.answer.outcomes) → write_step_of n o ≡ Some s → WriteOf program u s
      go n (Written None) m e = absurd (cc)
      go n (Written (Some v)) m e = let q : Write n v ≡ s = cc in record { name = n; value = v; is_step = sym q; is_outcome = m }
      go n (Scheduled l) m e = absurd (cc)

  pub in_schedules : (s : Step) → Mem s schedule_part → ScheduleOf program u s
  in_schedules s m = let r = mem_from_flat schedule_steps (zip (effects_of program u.reaction) u.answer.outcomes) s m in go r.0.0 r.0.1 r.1 r.2
    where
      go : (n : Name) (o : Outcome) → Mem (n, o) (zip (effects_of program u.reaction) u.answer.outcomes) → Mem s (schedule_steps_of n o) → ScheduleOf program u s
      go n (Written o) m e = absurd e
      go n (Scheduled l) m e = let q = mem_from_map (λ (y : ℕ × Value). Schedule n y.1 y.0) l s e in record { name = n; extra = q.0.0; value = q.0.1; list = l; is_step = sym q.2; is_outcome = m; is_in = q.1 }

  pub step_of_run : (s : Step) → Mem s (steps_of_run program u) → StepOf program u s
  step_of_run s m = first (mem_cases s (Start ∷ read_part ++ write_part ++ schedule_part) (closing_steps u.answer.stops) m)
    where
      third : Mem s (Start ∷ read_part) ⊎ Mem s write_part → StepOf program u s
      third (inl (inl e)) = starts (sym e)
      third (inl (inr m)) = StepOf.reads (in_reads s m)
      third (inr m) = writes (in_writes s m)

      second : Mem s (Start ∷ read_part ++ write_part) ⊎ Mem s schedule_part → StepOf program u s
      second (inl m) = third (mem_cases s (Start ∷ read_part) write_part m)
      second (inr m) = schedules (in_schedules s m)

      closing : (b : Bool) → Mem s (closing_steps b) → StepOf program u s
      closing true (inl e) = stops (sym e)
      closing true (inr (inl e)) = ends (sym e)
      closing true (inr (inr z)) = absurd z
      closing false (inl e) = ends (sym e)
      closing false (inr z) = absurd z

      first : Mem s (Start ∷ read_part ++ write_part ++ schedule_part) ⊎ Mem s (closing_steps u.answer.stops) → StepOf program u s
      first (inl m) = second (mem_cases s (Start ∷ read_part ++ write_part) schedule_part m)
      first (inr m) = closing u.answer.stops m

-- a row of some runs is a row of one of them
pub record RowOfRun (program : Parts) (runs : List Run) (x : Row) : Type 0 where
  pub run : Run
  pub is_run : Mem run runs
  pub is_step : Mem x.step (steps_of_run program run)
  pub worker_is : x.worker ≡ 0
  pub tag_is : x.tag ≡ run.tag
  pub reaction_is : x.reaction ≡ run.reaction

abbrev pub row_with : Run → Step → Row
row_with u s = record { worker = 0; tag = u.tag; reaction = u.reaction; step = s }

pub in_rows : (program : Parts) (runs : List Run) (x : Row) → Mem x (rows_of program runs) → RowOfRun program runs x
in_rows program runs x m =
    let b = mem_from_flat (rows_of_run program) runs x m in
    let k = mem_from_map (row_with b.0) (steps_of_run program b.0) x b.2 in
    let e : row_with b.0 k.0 ≡ x = k.2 in
    record { run = b.0; is_run = b.1; is_step = subst (λ (s : Step). Mem s (steps_of_run program b.0)) (ap (λ (y : Row). y.step) e) k.1; worker_is = ap (λ (y : Row). y.worker) (sym e); tag_is = ap (λ (y : Row). y.tag) (sym e); reaction_is = ap (λ (y : Row). y.reaction) (sym e) }
