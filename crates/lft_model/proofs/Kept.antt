-- In a ordered trace: what an input of a run is at its tag, it is by the runs that ended before the run.
use Rattle.std.proofs.Common.{◌≡◌, ℕ, ◌<◌, ◌⊎◌, inl, inr, List, [], ◌∷◌, take, refl, sym, ap, ◌∙◌, subst, arith, lit<, Option, Some, None, slice_get, filter_map, option_map, option_and_then, Contains, unwrap_or}
use Rattle.std.specs.List.{last_or}
use native.Mathlib.Decide.{ℕ_discrete, dec_lt}
use Rattle.lft_tag.specs.declared.Tag.{Tag}
use Rattle.lft_lists.proofs.Members.{Mem, mem_map, mem_from_map, mem_filter, mem_from_filter, last_same, LastAt, last_by_place, last_flat, filter_map-flat_map, filter_map-filter_map, flat_map-filter_map, of_option, nil_of_none, mem_contains, contains_mem}
use Rattle.lft_ir.specs.{Parts.Parts, Sound.IsSound}
use Rattle.lft_ir.specs.declared.parts.{Reaction.Reaction, Value.Value, Name.{Name, TheVariants.{Port, Action}}}
use Rattle.lft_ir.specs.declared.steps.row.{Row.Row, Step.{Step, TheVariants.{Start, Read, Write, Schedule, Stop, End}}}
use Rattle.lft_model.specs.{Plans.PlanParts, Presence.{written, value_written, Last}}
use Rattle.lft_model.specs.Runs.{Run, Ran, end_row, step_of, steps_of, effects_of, reads_at, run_at, ended_by, steps_of_run, rows_of_run, rows_of}
use Rattle.lft_model.specs.{Breaches.{EndsBefore, IsUndeclared}, Recorded.IsAnswer}
use Rattle.lft_model.proofs.Places.{stable, dec_map, slice_get_take, slice_get_taken}
use Rattle.lft_model.proofs.Steps.{own_step, own_write, RowOf, step_row, row_step, written_some, some_written}
use Rattle.lft_model.proofs.Ended.{ended_before, row_is, wrote_step, row_of_write, written_by, by_written}
use Rattle.lft_model.proofs.Legality.{IsOrdered, Inside, one_start, one_end, keeps_four}
use Rattle.lft_graph.specs.Precedence.{Direct, Precedes.one}

pub name_discrete : (m n : Name) → Dec (m ≡ n)
name_discrete (Port p) (Port q) = dec_map (λ e. ap Port e) (λ e. cc) (ℕ_discrete p q)
name_discrete (Port p) (Action b) = no (λ e. cc)
name_discrete (Action a) (Port q) = no (λ e. cc)
name_discrete (Action a) (Action b) = dec_map (λ e. ap Action e) (λ e. cc) (ℕ_discrete a b)

pub dec_mem : (n : Name) (xs : List Name) → Dec (Mem n xs)
dec_mem n [] = no (λ m. m)
dec_mem n (x ∷ xs) = go (name_discrete x n) (dec_mem n xs)
  where
    go : Dec (x ≡ n) → Dec (Mem n xs) → Dec (Mem n (x ∷ xs))
    go (yes e) d = yes (inl e)
    go (no k) (yes m) = yes (inr m)
    go (no k) (no l) = no (λ z. elim z [ inl e ↦ k e | inr m ↦ l m ])

-- an effect of a reaction is an effect of one that the program has
pub effect_of : (program : Parts) (c : ℕ) (n : Name) → Mem n (effects_of program c) → (x : Reaction) × (slice_get program.reactions c ≡ Some x) × Contains x.effects n
effect_of program c n m = go (slice_get program.reactions c) refl m
  where
    go : (o : Option Reaction) → slice_get program.reactions c ≡ o → Mem n (unwrap_or (option_map (λ x. x.effects) o) []) → (x : Reaction) × (slice_get program.reactions c ≡ Some x) × Contains x.effects n
    go None q m = absurd m
    go (Some x) q m = (x, q, mem_contains n x.effects m)

-- the rows of one run show its last value of a port
module _ (plan : PlanParts) (t : List Row) (h : Tag) (p : ℕ) where
  abbrev row_at : Tag → ℕ → Step → Row
  row_at g c s = record { worker = 0; tag = g; reaction = c; step = s }

  part_from : (g : Tag) (c : ℕ) (y : Value) → Mem y (filter_map (written h p) (rows_of_run plan.program (run_at plan t g c))) → (g ≡ h) × (y : Value) × Mem (Port p) (effects_of plan.program c) × (last_or None (filter_map (value_written p) (steps_of t h c)) ≡ Some y)
  part_from g c y m =
      let a = mem_from_filter (written h p) (rows_of_run plan.program (run_at plan t g c)) y m in
      let b = mem_from_map (row_at g c) (steps_of_run plan.program (run_at plan t g c)) a.0 a.1 in
      let f : written h p (row_at g c b.0) ≡ Some y = ap (λ (x : Row). written h p x) b.2 ∙ a.2 in
      let w = written_by h p (row_at g c b.0) y f in
      let z = wrote_step plan t 0 c g b.0 p y w.1 (own_step plan.program t g c (reads_at plan t g c) b.0 b.1) in
      (w.0, y, z.0, ap (λ (k : Tag). last_or None (filter_map (value_written p) (steps_of t k c))) (sym w.0) ∙ z.1)

  same_part : (c : ℕ) (y v : Value) → last_or None (filter_map (value_written p) (steps_of t h c)) ≡ Some v → Mem y (filter_map (written h p) (rows_of_run plan.program (run_at plan t h c))) → y ≡ v
  same_part c y v e m =
      let a = mem_from_filter (written h p) (rows_of_run plan.program (run_at plan t h c)) y m in
      let b = mem_from_map (row_at h c) (steps_of_run plan.program (run_at plan t h c)) a.0 a.1 in
      let f : written h p (row_at h c b.0) ≡ Some y = ap (λ (x : Row). written h p x) b.2 ∙ a.2 in
      let w = written_by h p (row_at h c b.0) y f in
      let z = (wrote_step plan t 0 c h b.0 p y w.1 (own_step plan.program t h c (reads_at plan t h c) b.0 b.1)).1 in
      cc

  own_part : (c : ℕ) (v : Value) → Mem (Port p) (effects_of plan.program c) → last_or None (filter_map (value_written p) (steps_of t h c)) ≡ Some v → last_or None (filter_map (written h p) (rows_of_run plan.program (run_at plan t h c))) ≡ Some v
  own_part c v m e =
      let steps = steps_of_run plan.program (run_at plan t h c) in
      let a : Mem (row_at h c (Write (Port p) v)) (rows_of_run plan.program (run_at plan t h c)) = mem_map (row_at h c) (Write (Port p) v) steps (own_write plan.program t h c (reads_at plan t h c) p v m e) in
      last_same (filter_map (written h p) (rows_of_run plan.program (run_at plan t h c))) v (mem_filter (written h p) (row_at h c (Write (Port p) v)) v (rows_of_run plan.program (run_at plan t h c)) a (by_written h p (row_at h c (Write (Port p) v)) v refl (some_written p v))) (λ y n. same_part c y v e n)

module _ (plan : PlanParts) (sound : IsSound plan.program) (t : List Row) (ordered : IsOrdered plan t) where
  -- what a run writes is an effect of its reaction
  pub declared_write : (i : ℕ) (x : Row) (p : ℕ) (v : Value) → slice_get t i ≡ Some x → x.step ≡ Write (Port p) v → Mem (Port p) (effects_of plan.program x.reaction)
  declared_write i x p v e s = stable (dec_mem (Port p) (effects_of plan.program x.reaction)) (λ n. keeps_four plan t ordered.well i x 4 (lit< tt) e (inr (inr (inr (inl (refl, subst (λ (z : Step). IsUndeclared plan.program t i x z) (sym s) (λ (c : Contains (effects_of plan.program x.reaction) (Port p)). n (contains_mem (Port p) (effects_of plan.program x.reaction) c))))))))

  pub before_direct : (a c p : ℕ) → Mem (Port p) (effects_of plan.program a) → Mem (Port p) (effects_of plan.program c) → a < c → Direct plan.program a c
  before_direct a c p m n l =
      let x = effect_of plan.program a (Port p) m in
      let y = effect_of plan.program c (Port p) n in
      let same = sound.one_writer a c x.0 y.0 p x.1 y.1 x.2 y.2 in
      inl (record { first = x.0; second = y.0; is_first = x.1; is_second = y.1; same_instance = same; declared_first = sound.numbered a c x.0 y.0 x.1 y.1 same l })

  -- of two writers of one port at one tag, one ended before the other started
  pub apart : (h : Tag) (a c p : ℕ) → Mem (Port p) (effects_of plan.program a) → Mem (Port p) (effects_of plan.program c) → Ran t h a → Ran t h c → ¬ (a ≡ c) → EndsBefore t h a c ⊎ EndsBefore t h c a
  apart h a c p m n first second other = go (dec_lt a c)
    where
      go : Dec (a < c) → EndsBefore t h a c ⊎ EndsBefore t h c a
      go (yes l) = inl (ordered.precedence h a c (one (before_direct a c p m n l)) first second)
      go (no k) = inr (ordered.precedence h c a (one (before_direct c a p n m (omega arith))) second first)

  -- a write row stands between the start and the end of its run
  pub inside_write : (i : ℕ) (x : Row) (p : ℕ) (v : Value) → slice_get t i ≡ Some x → x.step ≡ Write (Port p) v → Inside t i x.tag x.reaction
  inside_write i x p v e s = ordered.told i x e (subst (λ (z : Step). IsAnswer z) (sym s) tt)

  -- a write of a run, by its last value: a row inside the run
  pub record WriteRow (h : Tag) (c p : ℕ) (v : Value) : Type 0 where
    pub place : ℕ
    pub row : Row
    pub is_row : slice_get t place ≡ Some row
    pub is_written : written h p row ≡ Some v
    pub within : Inside t place h c

  pub write_row : (i : ℕ) (h : Tag) (c p : ℕ) (v : Value) → last_or None (filter_map (value_written p) (steps_of t h c)) ≡ Some v → WriteRow h c p v
  write_row i h c p v e = go (row_of_write plan t i h p c v e)
    where
      go : ((r : RowOf t h c (Write (Port p) v)) × (written h p r.row ≡ Some v)) → WriteRow h c p v
      go q =
          let r = q.0 in
          let k : Inside t r.place r.row.tag r.row.reaction = inside_write r.place r.row p v r.is_row r.step_is in
          let k2 : Inside t r.place h r.row.reaction = subst (λ (g : Tag). Inside t r.place g r.row.reaction) r.tag_is k in
          record { place = r.place; row = r.row; is_row = r.is_row; is_written = q.1; within = subst (λ (d : ℕ). Inside t r.place h d) r.reaction_is k2 }

  -- the last write of port p at h, where it is by reaction a
  module _ (h : Tag) (p : ℕ) (v : Value) (l : LastAt (written h p) t v) where
    pub is_write : (l.item.tag ≡ h) × (l.item.step ≡ Write (Port p) v)
    is_write = let r = written_by h p l.item v l.gives in (r.0, written_some p l.item.step v r.1)

    pub writer_effect : Mem (Port p) (effects_of plan.program l.item.reaction)
    writer_effect = declared_write l.place l.item p v l.is_item is_write.1

    pub writer_inside : Inside t l.place h l.item.reaction
    writer_inside = subst (λ (g : Tag). Inside t l.place g l.item.reaction) is_write.0 (inside_write l.place l.item p v l.is_item is_write.1)

    -- the last write of the writer's own steps is the same one
    pub own_last : last_or None (filter_map (value_written p) (steps_of t h l.item.reaction)) ≡ Some v
    own_last = ap (λ ys. last_or None ys) (filter_map-filter_map (step_of h l.item.reaction) (value_written p) both (λ x. refl) t) ∙ last_by_place both t v (record { place = l.place; item = l.item; is_item = l.is_item; gives = gives; none_after = none })
      where
        both : Row → Option Value
        both x = option_and_then (value_written p) (step_of h l.item.reaction x)

        gives : both l.item ≡ Some v
        gives = let e : step_of h l.item.reaction l.item ≡ Some l.item.step = row_step h l.item.reaction l.item is_write.0 refl in ap (λ o. option_and_then (value_written p) o) e ∙ (written_by h p l.item v l.gives).1

        two : (x : Row) (w : Value) → both x ≡ Some w → written h p x ≡ Some w
        two x w e = step (step_of h l.item.reaction x) refl e
          where
            step : (o : Option Step) → step_of h l.item.reaction x ≡ o → option_and_then (value_written p) o ≡ Some w → written h p x ≡ Some w
            step None q e = absurd (cc)
            step (Some s) q e = let r = step_row t h l.item.reaction x s q in by_written h p x w r.0 (ap (λ (z : Step). value_written p z) r.2 ∙ e)

        none : (j : ℕ) (y : Row) → l.place < j → slice_get t j ≡ Some y → both y ≡ None
        none j y k e = value (both y) refl
          where
            value : (o : Option Value) → both y ≡ o → both y ≡ None
            value None q = q
            value (Some w) q = let a = l.none_after j y k e in let b = two y w q in absurd (cc)

    -- of another run that wrote the port at the tag, the end comes before the writer's end
    pub others_before : (c : ℕ) (w : Value) → Mem (Port p) (effects_of plan.program c) → last_or None (filter_map (value_written p) (steps_of t h c)) ≡ Some w → ¬ (c ≡ l.item.reaction) → (j : ℕ) (x : ℕ) → slice_get t j ≡ Some (end_row x h c) → j < writer_inside.end
    others_before c w m e other j x k = from_row (write_row 0 h c p w e)
      where
        from_row : WriteRow h c p w → j < writer_inside.end
        from_row r = by_order (apart h l.item.reaction c p writer_effect m (record { place = writer_inside.start; worker = writer_inside.worker; starts = writer_inside.starts }) (record { place = r.within.start; worker = r.within.worker; starts = r.within.starts }) (λ q. other (sym q)))
          where
            by_order : EndsBefore t h l.item.reaction c ⊎ EndsBefore t h c l.item.reaction → j < writer_inside.end
            by_order (inl b) =
                let e1 : b.ended_at ≡ writer_inside.end = one_end plan t ordered.well b.ended_at writer_inside.end b.worker writer_inside.worker h l.item.reaction b.ends writer_inside.ends in
                let e2 : b.started_at ≡ r.within.start = one_start plan t ordered.well b.started_at r.within.start b.other r.within.worker h c b.starts r.within.starts in
                let o1 : l.place < writer_inside.end = writer_inside.before_end in
                let o2 : b.ended_at < b.started_at = b.before in
                let o3 : r.within.start < r.place = r.within.after_start in
                let late : l.place < r.place = omega arith in
                let a = l.none_after r.place r.row late r.is_row in
                let b2 = r.is_written in
                absurd (cc)
            by_order (inr b) =
                let e1 : b.ended_at ≡ j = one_end plan t ordered.well b.ended_at j b.worker x h c b.ends k in
                let e2 : b.started_at ≡ writer_inside.start = one_start plan t ordered.well b.started_at writer_inside.start b.other writer_inside.worker h l.item.reaction b.starts writer_inside.starts in
                let o1 : writer_inside.start < l.place = writer_inside.after_start in
                let o2 : b.ended_at < b.started_at = b.before in
                let o3 : l.place < writer_inside.end = writer_inside.before_end in
                omega arith

    -- where the writer has ended before place i, the ended runs show the same last value
    pub last_kept : (i : ℕ) → writer_inside.end < i → Last (rows_of plan.program (ended_before plan t i)) h p v
    last_kept i before = ap (λ ys. last_or None ys) (filter_map-flat_map (rows_of_run plan.program) (written h p) (ended_before plan t i) ∙ flat_map-filter_map (λ row. ended_by plan t row row.step) shown (take i t)) ∙ last_flat part (take i t) writer_inside.end the_end v (slice_get_taken i t writer_inside.end the_end before writer_inside.ends) (own_part plan t h p l.item.reaction v writer_effect own_last) later
      where
        the_end : Row
        the_end = end_row writer_inside.worker h l.item.reaction

        shown : Run → List Value
        shown u = filter_map (written h p) (rows_of_run plan.program u)

        part : Row → List Value
        part row = of_option shown (ended_by plan t row row.step)

        other : (j x : ℕ) (g : Tag) (c : ℕ) → writer_inside.end < j → slice_get t j ≡ Some (end_row x g c) → shown (run_at plan t g c) ≡ []
        other j x g c less e = nil_of_none (shown (run_at plan t g c)) (λ y m. refute (part_from plan t h p g c y m))
          where
            refute : ((g ≡ h) × (y : Value) × Mem (Port p) (effects_of plan.program c) × (last_or None (filter_map (value_written p) (steps_of t h c)) ≡ Some y)) → ⊥
            refute r =
                let k : slice_get t j ≡ Some (end_row x h c) = e ∙ ap (λ (f : Tag). Some (end_row x f c)) r.0 in
                go k (ℕ_discrete c l.item.reaction)
              where
                go : slice_get t j ≡ Some (end_row x h c) → Dec (c ≡ l.item.reaction) → ⊥
                go k (yes q) = let z : j ≡ writer_inside.end = one_end plan t ordered.well j writer_inside.end x writer_inside.worker h l.item.reaction (k ∙ ap (λ (d : ℕ). Some (end_row x h d)) q) writer_inside.ends in omega arith
                go k (no q) = let z : j < writer_inside.end = others_before c r.1 r.2 r.3 q j x k in omega arith

        by_step : (j : ℕ) (y : Row) (s : Step) → y.step ≡ s → writer_inside.end < j → slice_get t j ≡ Some y → of_option shown (ended_by plan t y s) ≡ []
        by_step j y Start q less e = refl
        by_step j y (Read n w) q less e = refl
        by_step j y (Write n w) q less e = refl
        by_step j y (Schedule n w d) q less e = refl
        by_step j y Stop q less e = refl
        by_step j y End q less e = other j y.worker y.tag y.reaction less (e ∙ ap Some (row_is y y.worker y.tag y.reaction End refl refl refl q))

        later : (j : ℕ) (y : Row) → writer_inside.end < j → slice_get (take i t) j ≡ Some y → part y ≡ []
        later j y less e = by_step j y y.step refl less (slice_get_take i t j y e).1
