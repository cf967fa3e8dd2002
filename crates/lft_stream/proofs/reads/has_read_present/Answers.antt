use Rattle.std.proofs.Common.{◌≡◌, inl, inr, Option, Some, slice_get, ap, sym, subst, ◌∙◌, arith}
use Rattle.std.{specs.Option.IsSome, proofs.lemmas.Bool.cases_eq}
use Rattle.lft_ir.specs.{Parts.Parts, declared.parts.{Name.Name, Reaction.Reaction, Value.Value}}
use Rattle.lft_lists.proofs.Places.{at_contains, same_at, same_some}
use Rattle.lft_model.{specs.Runs.{read_of, steps_of}, proofs.Places.slice_get_within}
use Rattle.lft_rows.{specs.inner.Marks.HasSeat, proofs.Marked.input_seat}
use Rattle.lft_stream.proofs.reads.has_read_present.Goals.{in-Some+else-is_none, in_default}
use Rattle.lft_stream.proofs.reads.has_read_present.Goals as goal

pub loop-place-preserved : goal.loop-place-preserved
loop-place-preserved c = elim c.match-seat.branch [
  | in-Some+else-is_none w ↦ λ x k n l is input e. elim (cases_eq k c.loop-place.place) [
    | inl q ↦
        let same : n ≡ c.item_at.result = same_at c.args.names.now k c.loop-place.place n c.item_at.result e c.item_at.ensures q in
        let read = w.read_at.ensures w.in-Some.ensures.0 c.item_at.result w.in-Some.ensures.1 w.in-Some.ensures.2 in
        subst (λ (m : Name). IsSome (read_of (steps_of c.args.rows.now c.args.slice.tag c.args.reaction) m)) (sym same) (subst (λ (o : Option Value). IsSome o) read w.if-is_none.ensures)
    | inr d ↦ c.loop-place.invariant x k n (omega (arith, l, d)) is input e
  ]
  | in_default w ↦ λ x k n l is input e. elim (cases_eq k c.loop-place.place) [
    | inl q ↦
        let same : n ≡ c.item_at.result = same_at c.args.names.now k c.loop-place.place n c.item_at.result e c.item_at.ensures q in
        let own = w.in_default.ensures.0 in
        let here : slice_get c.program-program.result.now.reactions c.args.reaction ≡ Some x = ap (λ (p : Parts). slice_get p.reactions c.args.reaction) c.program-program.ensures.value ∙ is in
        let one : x ≡ own = same_some (slice_get c.program-program.result.now.reactions c.args.reaction) x own here w.in_default.ensures.1 in
        let seat = input_seat x n input in
        absurd (w.in_default.ensures.2 seat.0 (subst (λ (m : Name). HasSeat own m seat.0) same (subst (λ (y : Reaction). HasSeat y n seat.0) one seat.1)))
    | inr d ↦ c.loop-place.invariant x k n (omega (arith, l, d)) is input e
  ]
]

pub returns : goal.returns
returns c = λ z x n is input m.
    let k = at_contains c.args.names.now n m in
    let a = slice_get_within c.args.names.now k.0 n k.1 in
    let b = c.loop-place-test.false in
    c.loop-place.invariant x k.0 n (omega arith) is input k.1
