-- What a run read, by the mark of an input.
use Rattle.std.proofs.Common.{◌≡◌, ℕ, ◌+◌, ◌<◌, ◌≤◌, ◌⊎◌, inl, inr, List, [], ◌∷◌, refl, sym, ap, ◌∙◌, subst, arith, lit<, cond, Option, Some, None, slice_get, filter_map, option_and_then}
use Rattle.std.{specs.List.last_or, proofs.NetLemmas.Options.cond_some}
use Rattle.lft_tag.specs.declared.Tag.{Tag}
use Rattle.lft_lists.proofs.Members.{filter_map-filter_map, Mem, get_mem, mem_from_filter, last_by_place, none_nil}
use Rattle.lft_ir.specs.declared.{parts.{Value.Value, Name.Name}, steps.row.{Row.Row, Step.{Step, TheVariants.{Start, Read, Write, Schedule, Stop, End}}}}
use Rattle.lft_ir.specs.Naming.{same_name}
use Rattle.lft_ir.proofs.Naming.{name_same, name_self}
use Rattle.lft_model.specs.{Runs.{read_of, steps_of, step_of, value_read as read_by}, Plans.PlanParts, Breaches.{WasRead, IsUndeclared}}
use Rattle.lft_model.proofs.{Legality.{KeepsFour, keeps_four}, Steps.{step_row, row_step}}
use Rattle.lft_rows.proofs.{Steps.row_eq, Marked.same_here}
use Rattle.lft_rows.specs.{declared.slices.Slice.Slice, inner.{Slices.IsSlice, Marks.{ReadsFor, IsMark}, Reads.value_read}}

-- what a row of the run of r at g reads of a name
abbrev pub read_in : Tag → ℕ → Name → Row → Option Value
read_in g r n row = option_and_then (read_by n) (step_of g r row)

read_over : (t : List Row) (g : Tag) (r : ℕ) (n : Name) → read_of (steps_of t g r) n ≡ last_or None (filter_map (read_in g r n) t)
read_over t g r n = ap (λ vs. last_or None vs) (filter_map-filter_map (step_of g r) (read_by n) (read_in g r n) (λ x. refl) t)

-- a step that reads the name
read_step : (n : Name) (s : Step) (v : Value) → read_by n s ≡ Some v → s ≡ Read n v
read_step n Start v e = absurd (cc)
read_step n (Read m w) v e = let p = cond_some (same_name n m) w v e in let q = name_same n m p.0 in ap (λ k. Read k w) (sym q) ∙ ap (λ k. Read n k) p.1
read_step n (Write m w) v e = absurd (cc)
read_step n (Schedule m w d) v e = absurd (cc)
read_step n Stop v e = absurd (cc)
read_step n End v e = absurd (cc)

step_read : (n : Name) (v : Value) → read_by n (Read n v) ≡ Some v
step_read n v = ap (λ b. cond b (Some v) None) (name_self n)

-- a row that reads of the name in the run
record ReadRow (g : Tag) (r : ℕ) (n : Name) (v : Value) (row : Row) : Type 0 where
  tag_is : row.tag ≡ g
  reaction_is : row.reaction ≡ r
  step_is : row.step ≡ Read n v

of_read_in : (g : Tag) (r : ℕ) (n : Name) (v : Value) (row : Row) → read_in g r n row ≡ Some v → ReadRow g r n v row
of_read_in g r n v row e = go (step_of g r row) refl e
  where
    go : (o : Option Step) → step_of g r row ≡ o → option_and_then (read_by n) o ≡ Some v → ReadRow g r n v row
    go None q f = absurd (cc)
    go (Some s) q f = let p = step_row [] g r row s q in record { tag_is = p.0; reaction_is = p.1; step_is = p.2 ∙ read_step n s v f }

to_read_in : (g : Tag) (r : ℕ) (n : Name) (v : Value) (row : Row) → ReadRow g r n v row → read_in g r n row ≡ Some v
to_read_in g r n v row x = ap (λ o. option_and_then (read_by n) o) (row_step g r row x.tag_is x.reaction_is) ∙ ap (read_by n) x.step_is ∙ step_read n v

module _ (t : List Row) (g : Tag) (r : ℕ) (n : Name) where
  none_read : ((j : ℕ) (row : Row) (v : Value) → slice_get t j ≡ Some row → ¬ ReadRow g r n v row) → None ≡ read_of (steps_of t g r) n
  none_read d = sym (read_over t g r n ∙ ap (λ vs. last_or None vs) (none_nil (read_in g r n) t (λ j row e. go j row e (read_in g r n row) refl)))
    where
      go : (j : ℕ) (row : Row) → slice_get t j ≡ Some row → (o : Option Value) → read_in g r n row ≡ o → read_in g r n row ≡ None
      go j row e None q = q
      go j row e (Some v) q = absurd (d j row v e (of_read_in g r n v row q))

-- a row of the run reads for the reaction, and stands in the slice of the tag
module _ (t : List Row) (s : Slice) (is_slice : IsSlice t s) (r : ℕ) (n : Name) (m : ℕ) (mark : IsMark t s.first s.end r n m) where
  in_slice : (j : ℕ) (row : Row) (v : Value) → slice_get t j ≡ Some row → ReadRow s.tag r n v row → (s.first ≤ j) × (j < s.end) × ReadsFor r n row
  in_slice j row v e x = let p = is_slice.all j row e x.tag_is in (p.0, p.1, (x.reaction_is, (v, x.step_is)))

  pub no_read : ¬ (s.first < m) → None ≡ read_of (steps_of t s.tag r) n
  no_read d = go mark
    where
      go : IsMark t s.first s.end r n m → None ≡ read_of (steps_of t s.tag r) n
      go (inl x) = none_read t s.tag r n (λ j row v e y. let p = in_slice j row v e y in x.1 j row p.0 p.1 e p.2)
      go (inr (j, q, last)) = let a : m ≡ j + 1 = q in let b : s.first ≤ j = last.from in absurd (d (omega arith))

  pub last_read : s.first < m → (place : ℕ) → place + 1 ≡ m → (row : Row) → slice_get t place ≡ Some row → value_read row.step ≡ read_of (steps_of t s.tag r) n
  last_read l place q row e = go mark
    where
      go : IsMark t s.first s.end r n m → value_read row.step ≡ read_of (steps_of t s.tag r) n
      go (inl x) = let a : m ≤ s.first = x.0 in absurd (omega arith)
      go (inr (j, p, last)) =
          let a : m ≡ j + 1 = p in
          let b : place ≡ j = omega arith in
          let c : row ≡ last.row = same_here t j row last.row (ap (λ k. slice_get t k) (sym b) ∙ e) last.is_row in
          let tag : last.row.tag ≡ s.tag = is_slice.at_tag j last.row last.is_row last.from last.before in
          let v = last.reads.1.0 in
          let over = last_by_place (read_in s.tag r n) t v (record { place = j; item = last.row; is_item = last.is_row; gives = to_read_in s.tag r n v last.row (record { tag_is = tag; reaction_is = last.reads.0; step_is = last.reads.1.1 }); none_after = λ k z u f. none k z u f (read_in s.tag r n z) refl }) in
          ap (λ (z : Row). value_read z.step) c ∙ ap value_read last.reads.1.1 ∙ sym (read_over t s.tag r n ∙ over)
        where
          none : (k : ℕ) (z : Row) → j < k → slice_get t k ≡ Some z → (o : Option Value) → read_in s.tag r n z ≡ o → read_in s.tag r n z ≡ None
          none k z u f None h = h
          none k z u f (Some w) h = let y = in_slice k z w f (of_read_in s.tag r n w z h) in absurd (last.none_after k z (omega arith) y.1 f y.2)

-- where no row breaks a rule, what a row reads is what its run read
pub reads_value : (plan : PlanParts) (t : List Row) → KeepsFour plan t → (g : Tag) (r : ℕ) (n : Name) (v : Value) (j : ℕ) (row : Row) → slice_get t j ≡ Some row → row.tag ≡ g → row.reaction ≡ r → row.step ≡ Read n v → read_of (steps_of t g r) n ≡ Some v
reads_value plan t keeps g r n v j row e tag reaction step = read_over t g r n ∙ last_by_place (read_in g r n) t v (record { place = j; item = row; is_item = e; gives = to_read_in g r n v row (record { tag_is = tag; reaction_is = reaction; step_is = step }); none_after = λ k z l f. none k z l f (read_in g r n z) refl })
  where
    none : (k : ℕ) (z : Row) → j < k → slice_get t k ≡ Some z → (o : Option Value) → read_in g r n z ≡ o → read_in g r n z ≡ None
    none k z l f None h = h
    none k z l f (Some w) h =
        let y = of_read_in g r n w z h in
        let again : WasRead t k z.tag z.reaction n = (j, row.worker, v, l, e ∙ ap Some (row_eq row (Read n v) step ∙ same (tag ∙ sym y.tag_is) (reaction ∙ sym y.reaction_is))) in
        absurd (keeps_four plan t keeps k z 4 (lit< tt) f (inr (inr (inr (inl (refl, subst (λ (s : Step). IsUndeclared plan.program t k z s) (sym y.step_is) (inr again)))))))
      where
        same : {h k : Tag} {a b : ℕ} → h ≡ k → a ≡ b → (let x : Row = record { worker = row.worker; tag = h; reaction = a; step = Read n v } in let y : Row = record { worker = row.worker; tag = k; reaction = b; step = Read n v } in x ≡ y)
        same p q = cc

-- what a run read, some row of it reads
some_last : (xs : List Value) (o : Option Value) (v : Value) → last_or o xs ≡ Some v → (o ≡ Some v) ⊎ Mem v xs
some_last [] o v e = inl e
some_last (x ∷ xs) o v e = go (some_last xs (Some x) v e)
  where
    go : (Some x ≡ Some v) ⊎ Mem v xs → (o ≡ Some v) ⊎ Mem v (x ∷ xs)
    go (inl q) = inr (inl (let z : x ≡ v = cc in z))
    go (inr m) = inr (inr m)

pub read_there : (t : List Row) (g : Tag) (r : ℕ) (n : Name) (v : Value) → read_of (steps_of t g r) n ≡ Some v → (j : ℕ) × (row : Row) × (slice_get t j ≡ Some row) × (row.tag ≡ g) × (row.reaction ≡ r) × (row.step ≡ Read n v)
read_there t g r n v e = go (some_last (filter_map (read_in g r n) t) None v (sym (read_over t g r n) ∙ e))
  where
    go : (None ≡ Some v) ⊎ Mem v (filter_map (read_in g r n) t) → (j : ℕ) × (row : Row) × (slice_get t j ≡ Some row) × (row.tag ≡ g) × (row.reaction ≡ r) × (row.step ≡ Read n v)
    go (inl q) = absurd (cc)
    go (inr m) =
        let f = mem_from_filter (read_in g r n) t v m in
        let p = get_mem f.0 t f.1 in
        let y = of_read_in g r n v f.0 f.2 in
        (p.0, f.0, p.1, y.tag_is, y.reaction_is, y.step_is)
