-- The steps of a run in a trace, and in the rows of the run alone.
use Rattle.std.proofs.Common.{◌≡◌, ℕ, ◌⊎◌, inl, inr, List, [], ◌∷◌, ◌++◌, map, refl, sym, ap, ◌∙◌, subst, Option, Some, None, Bool, true, false, ◌&&◌, ◌==◌, eqb-true, eq-eqb, slice_get, filter_map, flat_map, option_map, zip}
use Rattle.std.{specs.List.last_or, proofs.NetLemmas.Options.cond_some}
use Rattle.lft_tag.{specs.{declared.Tag.Tag, Tags.same_tag}, proofs.Order.{same_tag_refl, same_tag_true}}
use Rattle.lft_lists.proofs.Members.{Mem, mem_get, get_mem, mem_left, mem_right, mem_cases, mem_map, mem_from_map, mem_filter, mem_from_filter, mem_flat, mem_from_flat, zip-map}
use Rattle.lft_lists.proofs.Mapped.{option_map_some}
use Rattle.lft_ir.specs.Parts.{Parts}
use Rattle.lft_ir.specs.declared.parts.{Value.Value, Name.{Name, TheVariants.{Port, Action}}}
use Rattle.lft_ir.specs.declared.steps.row.{Row.Row, Step.{Step, TheVariants.{Start, Read, Write, Schedule, Stop, End}}}
use Rattle.lft_model.specs.Presence.{value_written, value_scheduled}
use Rattle.lft_model.specs.Runs.{Run, Outcome, step_of, steps_of, outcome_of, inputs_of, effects_of, read_step, write_step, schedule_steps, write_step_of, schedule_steps_of, closing_steps, request_of, steps_of_run}

pub both_true : (a b : Bool) → a && b ≡ true → (a ≡ true) × (b ≡ true)
both_true true b e = (refl, e)
both_true false b e = absurd (cc)

-- a step of the run of c at h is the step of a row
pub step_row : (t : List Row) (h : Tag) (c : ℕ) (row : Row) (s : Step) → step_of h c row ≡ Some s → (row.tag ≡ h) × (row.reaction ≡ c) × (row.step ≡ s)
step_row t h c row s e =
    let p = cond_some (same_tag h row.tag && (c == row.reaction)) row.step s e in
    let q = both_true (same_tag h row.tag) (c == row.reaction) p.0 in
    (sym (same_tag_true h row.tag q.0), sym (eqb-true c row.reaction q.1), p.1)

pub row_step : (h : Tag) (c : ℕ) (row : Row) → row.tag ≡ h → row.reaction ≡ c → step_of h c row ≡ Some row.step
row_step h c row p q =
    let a : same_tag h row.tag ≡ true = same_tag_refl h row.tag (sym p) in
    let b : (c == row.reaction) ≡ true = eq-eqb c row.reaction (sym q) in
    rw (a, b) refl

pub mem_step : (t : List Row) (h : Tag) (c : ℕ) (i : ℕ) (row : Row) → slice_get t i ≡ Some row → row.tag ≡ h → row.reaction ≡ c → Mem row.step (steps_of t h c)
mem_step t h c i row e p q = mem_filter (step_of h c) row row.step t (mem_get t i row e) (row_step h c row p q)

pub record RowOf (t : List Row) (h : Tag) (c : ℕ) (s : Step) : Type 0 where
  pub place : ℕ
  pub row : Row
  pub is_row : slice_get t place ≡ Some row
  pub tag_is : row.tag ≡ h
  pub reaction_is : row.reaction ≡ c
  pub step_is : row.step ≡ s

pub step_mem : (t : List Row) (h : Tag) (c : ℕ) (s : Step) → Mem s (steps_of t h c) → RowOf t h c s
step_mem t h c s m =
    let r = mem_from_filter (step_of h c) t s m in
    let g = get_mem r.0 t r.1 in
    let p = step_row t h c r.0 s r.2 in
    record { place = g.0; row = r.0; is_row = g.1; tag_is = p.0; reaction_is = p.1; step_is = p.2 }

-- what steps write and schedule
pub written_some : (p : ℕ) (s : Step) (v : Value) → value_written p s ≡ Some v → s ≡ Write (Port p) v
written_some p Start v e = absurd (cc)
written_some p (Read n w) v e = absurd (cc)
written_some p (Write (Port q) w) v e = let r = cond_some (p == q) w v e in let f : p ≡ q = eqb-true p q r.0 in let g : w ≡ v = r.1 in cc
written_some p (Write (Action b) w) v e = absurd (cc)
written_some p (Schedule n w d) v e = absurd (cc)
written_some p Stop v e = absurd (cc)
written_some p End v e = absurd (cc)

pub some_written : (p : ℕ) (v : Value) → value_written p (Write (Port p) v) ≡ Some v
some_written p v = let a : (p == p) ≡ true = eq-eqb p p refl in rw a refl

pub scheduled_some : (a : ℕ) (s : Step) (x : ℕ × Value) → value_scheduled a s ≡ Some x → s ≡ Schedule (Action a) x.1 x.0
scheduled_some a Start x e = absurd (cc)
scheduled_some a (Read n w) x e = absurd (cc)
scheduled_some a (Write n w) x e = absurd (cc)
scheduled_some a (Schedule (Port q) w d) x e = absurd (cc)
scheduled_some a (Schedule (Action b) w d) x e =
    let r = cond_some (a == b) (d, w) x e in
    let f : a ≡ b = eqb-true a b r.0 in
    let g : w ≡ x.1 = ap (λ (y : ℕ × Value). y.1) r.1 in
    let k : d ≡ x.0 = ap (λ (y : ℕ × Value). y.0) r.1 in
    cc
scheduled_some a Stop x e = absurd (cc)
scheduled_some a End x e = absurd (cc)

pub some_scheduled : (a d : ℕ) (v : Value) → value_scheduled a (Schedule (Action a) v d) ≡ Some (d, v)
some_scheduled a d v = let b : (a == a) ≡ true = eq-eqb a a refl in rw b refl

pub in_reads : (xs : List (Name × Option Value)) (s : Step) → Mem s (filter_map read_step xs) → (n : Name) × (v : Value) × (s ≡ Read n v)
in_reads xs s m = let r = mem_from_filter read_step xs s m in let q = option_map_some (λ v. Read r.0.0 v) r.0.1 s r.2 in (r.0.0, q.0, sym q.2)

-- the write steps of a run's rows
pub record OwnWrite (effects : List Name) (steps : List Step) (s : Step) : Type 0 where
  pub port : ℕ
  pub value : Value
  pub is_step : s ≡ Write (Port port) value
  pub is_effect : Mem (Port port) effects
  pub is_last : last_or None (filter_map (value_written port) steps) ≡ Some value

pub in_writes : (effects : List Name) (steps : List Step) (s : Step) → Mem s (filter_map write_step (zip effects (map (outcome_of steps) effects))) → OwnWrite effects steps s
in_writes effects steps s m =
    let l : Mem s (filter_map write_step (map (λ n. (n, outcome_of steps n)) effects)) = subst (λ (zs : List (Name × Outcome)). Mem s (filter_map write_step zs)) (zip-map (outcome_of steps) effects) m in
    let r = mem_from_filter write_step (map (λ n. (n, outcome_of steps n)) effects) s l in
    let q = mem_from_map (λ (n : Name). (n, outcome_of steps n)) effects r.0 r.1 in
    go q.0 q.1 (ap write_step q.2 ∙ r.2)
  where
    go : (n : Name) → Mem n effects → write_step_of n (outcome_of steps n) ≡ Some s → OwnWrite effects steps s
    go (Port p) m e = let q = option_map_some (λ v. Write (Port p) v) (last_or None (filter_map (value_written p) steps)) s e in record { port = p; value = q.0; is_step = sym q.2; is_effect = m; is_last = q.1 }
    go (Action a) m e = absurd (cc)

-- the schedule steps of a run's rows
pub record OwnSchedule (effects : List Name) (steps : List Step) (s : Step) : Type 0 where
  pub action : ℕ
  pub extra : ℕ
  pub value : Value
  pub is_step : s ≡ Schedule (Action action) value extra
  pub is_effect : Mem (Action action) effects
  pub is_scheduled : Mem (extra, value) (filter_map (value_scheduled action) steps)

in_schedules : (effects : List Name) (steps : List Step) (s : Step) → Mem s (flat_map schedule_steps (zip effects (map (outcome_of steps) effects))) → OwnSchedule effects steps s
in_schedules effects steps s m =
    let l : Mem s (flat_map schedule_steps (map (λ n. (n, outcome_of steps n)) effects)) = subst (λ (zs : List (Name × Outcome)). Mem s (flat_map schedule_steps zs)) (zip-map (outcome_of steps) effects) m in
    let r = mem_from_flat schedule_steps (map (λ n. (n, outcome_of steps n)) effects) s l in
    let q = mem_from_map (λ (n : Name). (n, outcome_of steps n)) effects r.0 r.1 in
    go q.0 q.1 (subst (λ (x : Name × Outcome). Mem s (schedule_steps x)) (sym q.2) r.2)
  where
    go : (n : Name) → Mem n effects → Mem s (schedule_steps_of n (outcome_of steps n)) → OwnSchedule effects steps s
    go (Port p) m e = absurd e
    go (Action a) m e = let q = mem_from_map (λ (y : ℕ × Value). Schedule (Action a) y.1 y.0) (filter_map (value_scheduled a) steps) s e in record { action = a; extra = q.0.0; value = q.0.1; is_step = sym q.2; is_effect = m; is_scheduled = q.1 }

-- some steps request a stop exactly where a stop is among them
pub request_mem : (steps : List Step) → request_of steps ≡ true → Mem Stop steps
request_mem [] e = absurd (cc)
request_mem (Stop ∷ ss) e = inl refl
request_mem (Start ∷ ss) e = inr (request_mem ss e)
request_mem (Read n v ∷ ss) e = inr (request_mem ss e)
request_mem (Write n v ∷ ss) e = inr (request_mem ss e)
request_mem (Schedule n v d ∷ ss) e = inr (request_mem ss e)
request_mem (End ∷ ss) e = inr (request_mem ss e)

pub mem_request : (steps : List Step) → Mem Stop steps → request_of steps ≡ true
mem_request [] m = absurd m
mem_request (Stop ∷ ss) m = refl
mem_request (Start ∷ ss) (inl e) = absurd (cc)
mem_request (Start ∷ ss) (inr m) = mem_request ss m
mem_request (Read n v ∷ ss) (inl e) = absurd (cc)
mem_request (Read n v ∷ ss) (inr m) = mem_request ss m
mem_request (Write n v ∷ ss) (inl e) = absurd (cc)
mem_request (Write n v ∷ ss) (inr m) = mem_request ss m
mem_request (Schedule n v d ∷ ss) (inl e) = absurd (cc)
mem_request (Schedule n v d ∷ ss) (inr m) = mem_request ss m
mem_request (End ∷ ss) (inl e) = absurd (cc)
mem_request (End ∷ ss) (inr m) = mem_request ss m

-- what the steps of a run's own rows are
pub data OwnStep (effects : List Name) (steps : List Step) (s : Step) : Type 0 where
  starts : s ≡ Start → OwnStep effects steps s
  reads : (n : Name) (v : Value) → s ≡ Read n v → OwnStep effects steps s
  writes : OwnWrite effects steps s → OwnStep effects steps s
  schedules : OwnSchedule effects steps s → OwnStep effects steps s
  stops : s ≡ Stop → Mem Stop steps → OwnStep effects steps s
  ends : s ≡ End → OwnStep effects steps s

module _ (program : Parts) (t : List Row) (h : Tag) (c : ℕ) (reads : List (Option Value)) where
  abbrev pub run_of : Run
  run_of = record { tag = h; reaction = c; reads = reads; answer = record { outcomes = map (outcome_of (steps_of t h c)) (effects_of program c); stops = request_of (steps_of t h c) } }

  abbrev read_part : List Step
  read_part = Start ∷ filter_map read_step (zip (inputs_of program c) reads)

  abbrev write_part : List Step
  write_part = filter_map write_step (zip (effects_of program c) (map (outcome_of (steps_of t h c)) (effects_of program c)))

  abbrev schedule_part : List Step
  schedule_part = flat_map schedule_steps (zip (effects_of program c) (map (outcome_of (steps_of t h c)) (effects_of program c)))

  pub own_step : (s : Step) → Mem s (steps_of_run program (run_of)) → OwnStep (effects_of program c) (steps_of t h c) s
  own_step s m = first (mem_cases s (read_part ++ write_part ++ schedule_part) (closing_steps (request_of (steps_of t h c))) m)
    where
      third : Mem s read_part ⊎ Mem s write_part → OwnStep (effects_of program c) (steps_of t h c) s
      third (inl (inl e)) = starts (sym e)
      third (inl (inr m)) = let r = in_reads (zip (inputs_of program c) reads) s m in OwnStep.reads r.0 r.1 r.2
      third (inr m) = writes (in_writes (effects_of program c) (steps_of t h c) s m)

      second : Mem s (read_part ++ write_part) ⊎ Mem s schedule_part → OwnStep (effects_of program c) (steps_of t h c) s
      second (inl m) = third (mem_cases s read_part write_part m)
      second (inr m) = schedules (in_schedules (effects_of program c) (steps_of t h c) s m)

      closing : (b : Bool) → request_of (steps_of t h c) ≡ b → Mem s (closing_steps b) → OwnStep (effects_of program c) (steps_of t h c) s
      closing true q (inl e) = stops (sym e) (request_mem (steps_of t h c) q)
      closing true q (inr (inl e)) = ends (sym e)
      closing true q (inr (inr z)) = absurd z
      closing false q (inl e) = ends (sym e)
      closing false q (inr z) = absurd z

      first : Mem s (read_part ++ write_part ++ schedule_part) ⊎ Mem s (closing_steps (request_of (steps_of t h c))) → OwnStep (effects_of program c) (steps_of t h c) s
      first (inl m) = second (mem_cases s (read_part ++ write_part) schedule_part m)
      first (inr m) = closing (request_of (steps_of t h c)) refl m

  -- and which steps are among them
  pub own_stop : Mem Stop (steps_of t h c) → Mem Stop (steps_of_run program (run_of))
  own_stop m = mem_right Stop (read_part ++ write_part ++ schedule_part) (closing_steps (request_of (steps_of t h c))) (subst (λ (b : Bool). Mem Stop (closing_steps b)) (sym (mem_request (steps_of t h c) m)) (inl refl))

  pub own_write : (p : ℕ) (v : Value) → Mem (Port p) (effects_of program c) → last_or None (filter_map (value_written p) (steps_of t h c)) ≡ Some v → Mem (Write (Port p) v) (steps_of_run program (run_of))
  own_write p v m e =
      let eff = effects_of program c in
      let st = steps_of t h c in
      let z : Mem (Port p, outcome_of st (Port p)) (map (λ (n : Name). (n, outcome_of st n)) eff) = mem_map (λ (n : Name). (n, outcome_of st n)) (Port p) eff m in
      let y : Mem (Port p, outcome_of st (Port p)) (zip eff (map (outcome_of st) eff)) = subst (λ (zs : List (Name × Outcome)). Mem (Port p, outcome_of st (Port p)) zs) (sym (zip-map (outcome_of st) eff)) z in
      let w : Mem (Write (Port p) v) (filter_map write_step (zip eff (map (outcome_of st) eff))) = mem_filter write_step (Port p, outcome_of st (Port p)) (Write (Port p) v) (zip eff (map (outcome_of st) eff)) y (ap (λ (o : Option Value). option_map (λ v. Write (Port p) v) o) e) in
      mem_left (Write (Port p) v) (read_part ++ write_part ++ schedule_part) (closing_steps (request_of (steps_of t h c))) (mem_left (Write (Port p) v) (read_part ++ write_part) schedule_part (mem_right (Write (Port p) v) read_part write_part w))

  pub own_schedule : (a d : ℕ) (v : Value) → Mem (Action a) (effects_of program c) → Mem (d, v) (filter_map (value_scheduled a) (steps_of t h c)) → Mem (Schedule (Action a) v d) (steps_of_run program (run_of))
  own_schedule a d v m e =
      let eff = effects_of program c in
      let st = steps_of t h c in
      let z : Mem (Action a, outcome_of st (Action a)) (map (λ (n : Name). (n, outcome_of st n)) eff) = mem_map (λ (n : Name). (n, outcome_of st n)) (Action a) eff m in
      let y : Mem (Action a, outcome_of st (Action a)) (zip eff (map (outcome_of st) eff)) = subst (λ (zs : List (Name × Outcome)). Mem (Action a, outcome_of st (Action a)) zs) (sym (zip-map (outcome_of st) eff)) z in
      let w : Mem (Schedule (Action a) v d) (schedule_steps (Action a, outcome_of st (Action a))) = mem_map (λ (y : ℕ × Value). Schedule (Action a) y.1 y.0) (d, v) (filter_map (value_scheduled a) st) e in
      let u : Mem (Schedule (Action a) v d) (flat_map schedule_steps (zip eff (map (outcome_of st) eff))) = mem_flat schedule_steps (Action a, outcome_of st (Action a)) (Schedule (Action a) v d) (zip eff (map (outcome_of st) eff)) y w in
      mem_left (Schedule (Action a) v d) (read_part ++ write_part ++ schedule_part) (closing_steps (request_of (steps_of t h c))) (mem_right (Schedule (Action a) v d) (read_part ++ write_part) schedule_part u)
