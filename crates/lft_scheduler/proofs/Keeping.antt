-- The events in the queue from a later tag on, up to an earlier one, and after rows that make none.
use Rattle.std.proofs.Common.{◌≡◌, ℕ, inl, inr, List, [], ◌∷◌, ◌++◌, append-nil, map, filter_map, zip, refl, sym, ap, ◌∙◌, subst, Option, None}
use Rattle.lft_tag.{specs.{declared.Tag.Tag, Tags.UpTo}, proofs.Order.UpTo-trans}
use Rattle.lft_lists.proofs.Members.{Mem}
use Rattle.lft_ir.specs.declared.parts.{Value.Value, Name.{Name, TheVariants.{Port, Action}}}
use Rattle.lft_ir.specs.declared.steps.row.{Row.Row, Step.{Step, TheVariants.{Start, Read, Write, Schedule}}}
use Rattle.lft_queue.specs.Pending.{Pending}
use Rattle.lft_model.{specs.{Plans.PlanParts, Runs.{inputs_of, read_step}, Recorded.{run_row, begun_rows}}, proofs.Steps.in_reads}
use Rattle.lft_scheduler.{specs.inner.Events.HasEvents, proofs.Steps.inert}

-- from a later tag on, up to an earlier one
pub narrowed : (plan : PlanParts) (t : List Row) (from later last sooner : Tag) (q : List Pending) → UpTo from later → UpTo sooner last → HasEvents plan t from last None q → HasEvents plan t later sooner None q
narrowed plan t from later last sooner q a b is = record {
  values = λ h n v w c d e. is.values h n v w (UpTo-trans from later h a c) (UpTo-trans h sooner last d b) e;
  clean = λ h n d e. is.clean h n (UpTo-trans h sooner last d b) e;
  found = λ c e. absurd (cc);
}

-- rows that neither write nor schedule
pub rows_inert : (plan : PlanParts) (more t : List Row) (from last : Tag) (q : List Pending) → ((x : Row) → Mem x more → ((c : ℕ) (v : Value) → x.step ≡ Write (Port c) v → ⊥) × ((a d : ℕ) (v : Value) → x.step ≡ Schedule (Action a) v d → ⊥)) → HasEvents plan t from last None q → HasEvents plan (t ++ more) from last None q
rows_inert plan [] t from last q none is = subst (λ (rs : List Row). HasEvents plan rs from last None q) (sym (append-nil t)) is
rows_inert plan (x ∷ more) t from last q none is =
    let n = none x (inl refl) in
    subst (λ (rs : List Row). HasEvents plan rs from last None q) (seam t) (rows_inert plan more (t ++ x ∷ []) from last q (λ y m. none y (inr m)) (inert plan t x n.0 n.1 from last None q is))
  where
    seam : (s : List Row) → (s ++ x ∷ []) ++ more ≡ s ++ x ∷ more
    seam [] = refl
    seam (y ∷ s) = ap (λ (rs : List Row). y ∷ rs) (seam s)

-- the rows of a run that is begun
pub begun_inert : (plan : PlanParts) (t : List Row) (w : ℕ) (g : Tag) (r : ℕ) (shown : List (Option Value)) (from last : Tag) (q : List Pending) → HasEvents plan t from last None q → HasEvents plan (t ++ begun_rows plan w g r shown) from last None q
begun_inert plan t w g r shown from last q is = rows_inert plan (begun_rows plan w g r shown) t from last q none is
  where
    of_reads : (ss : List Step) → ((s : Step) → Mem s ss → (n : Name) × (v : Value) × (s ≡ Read n v)) → (x : Row) → Mem x (map (run_row w g r) ss) → ((c : ℕ) (v : Value) → x.step ≡ Write (Port c) v → ⊥) × ((a d : ℕ) (v : Value) → x.step ≡ Schedule (Action a) v d → ⊥)
    of_reads [] k x m = absurd m
    of_reads (s ∷ ss) k x (inl e) =
        let q = k s (inl refl) in
        let z : x.step ≡ Read q.0 q.1 = ap (λ (y : Row). y.step) (sym e) ∙ q.2 in
        (λ c v f. (let y : Read q.0 q.1 ≡ Write (Port c) v = sym z ∙ f in absurd (cc)), λ a d v f. (let y : Read q.0 q.1 ≡ Schedule (Action a) v d = sym z ∙ f in absurd (cc)))
    of_reads (s ∷ ss) k x (inr m) = of_reads ss (λ u n. k u (inr n)) x m

    none : (x : Row) → Mem x (begun_rows plan w g r shown) → ((c : ℕ) (v : Value) → x.step ≡ Write (Port c) v → ⊥) × ((a d : ℕ) (v : Value) → x.step ≡ Schedule (Action a) v d → ⊥)
    none x (inl e) =
        let z : x.step ≡ Start = ap (λ (y : Row). y.step) (sym e) in
        (λ c v f. (let y : Start ≡ Write (Port c) v = sym z ∙ f in absurd (cc)), λ a d v f. (let y : Start ≡ Schedule (Action a) v d = sym z ∙ f in absurd (cc)))
    none x (inr m) = of_reads (filter_map read_step (zip (inputs_of plan.program r) shown)) (in_reads (zip (inputs_of plan.program r) shown)) x m
