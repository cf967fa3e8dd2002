use Rattle.std.proofs.Common.{◌≡◌, ◌++◌, inl, inr, ℕ, true, Option, Some, None, MatchOption, slice_get, refl, ap, sym, subst, ◌∙◌, arith}
use Rattle.std.{specs.Option.is_some, proofs.lemmas.Bool.cases_eq}
use Rattle.lft_ir.specs.{Parts.{Parts, inputs}, declared.{parts.{Name.Name, Value.Value}, steps.row.{Row.Row, Step.TheVariants.Read}}}
use Rattle.lft_ir.proofs.Naming.{input_known}
use Rattle.lft_lists.proofs.{Members.{Mem, mem_get}, Places.same_at}
use Rattle.lft_model.specs.Presence.{Shows}
use Rattle.lft_rows.specs.inner.Marks.{HasSeat}
use Rattle.lft_queue.proofs.ComingLemmas.AtOnce.{input_awaited}
use Rattle.lft_stream.proofs.reads.are_reads_shown.Goals.{in-Read+else-is_none+else-not-are_same, in_default}
use Rattle.lft_stream.proofs.reads.are_reads_shown.Goals as goal

-- what is found is one of those that are looked for
found : (o : Option ℕ) (P : Type 0) (Q : ℕ → Type 0) → is_some o ≡ true → MatchOption o P Q → (k : ℕ) × Q k
found None P Q e m = absurd (cc e)
found (Some k) P Q e m = (k, m)

pub shown-requires-clause-name : goal.shown-requires-clause-name
shown-requires-clause-name c =
    let plan = c.args.plan.now in
    let r = c.row_at-row.result.reaction in
    let x = c.seat.ensures.0 in
    let n = c.in-Read.name in
    let seat = found c.seat.result ((k : ℕ) → ¬ HasSeat x n k) (HasSeat x n) c.if-is_none.ensures c.seat.ensures.2 in
    let is : slice_get plan.program.reactions r ≡ Some x = ap (λ (p : Parts). slice_get p.reactions r) (sym c.program-program.ensures.value) ∙ c.seat.ensures.1 in
    let m : Mem n (inputs x) = mem_get (inputs x) seat.0 n seat.1 in
    (input_known plan.program c.program-program.ensures.sound.sound r x is n m, input_awaited plan.program r x is n m)

pub loop-place-preserved : goal.loop-place-preserved
loop-place-preserved c = elim c.match-row.branch [
  | in-Read+else-is_none+else-not-are_same w ↦ λ d u shown i x n v low high e step. elim (cases_eq i c.loop-place.place) [
    | inl q ↦
        let same : x ≡ c.row_at-row.result = same_at c.args.rows.now i c.loop-place.place x c.row_at-row.result e c.row_at-row.ensures q in
        let name = w.in-Read.name in
        let both : Read name w.in-Read.value ≡ Read n v = sym w.in-Read.is ∙ ap (λ (y : Row). y.step) (sym same) ∙ step in
        let one : name ≡ n = cc in
        let value : w.in-Read.value ≡ v = cc in
        subst (λ (m : Name). Shows c.args.plan.now (d ++ u) c.args.slice.tag m (Some v)) one (subst (λ (z : Value). Shows c.args.plan.now (d ++ u) c.args.slice.tag name (Some z)) value (subst (λ (o : Option Value). Shows c.args.plan.now (d ++ u) c.args.slice.tag name o) (sym (w.if-not-are_same.ensures refl)) (w.shown.ensures d u shown)))
    | inr m ↦ c.loop-place.invariant d u shown i x n v low (omega (arith, high, m)) e step
  ]
  | in_default w ↦ λ d u shown i x n v low high e step. elim (cases_eq i c.loop-place.place) [
    | inl q ↦
        let same : x ≡ c.row_at-row.result = same_at c.args.rows.now i c.loop-place.place x c.row_at-row.result e c.row_at-row.ensures q in
        absurd (w.in_default.not-Read n v (ap (λ (y : Row). y.step) (sym same) ∙ step))
    | inr m ↦ c.loop-place.invariant d u shown i x n v low (omega (arith, high, m)) e step
  ]
]
