use Rattle.std.proofs.Common.{◌≡◌, ◌<◌, ◌+◌, ◌++◌, ◌∙◌, ℕ, List, Option, Some, slice_get, ap, refl, sym, subst, arith}
use native.Mathlib.Decide.{ℕ_discrete}
use Rattle.lft_ir.{specs.{Parts.{Parts, inputs}, declared.{parts.{Name.Name, Value.Value}, steps.row.Row.Row}}, proofs.Naming.input_known}
use Rattle.lft_lists.proofs.{Members.{Mem, mem_get}, Places.same_some}
use Rattle.lft_model.{specs.{Plans.PlanParts, Presence.Shows, Runs.{read_of, steps_of}}, proofs.Places.slice_get_within}
use Rattle.lft_queue.proofs.ComingLemmas.AtOnce.{input_awaited}
use Rattle.lft_stream.{specs.inner.Present.AreShown, proofs.Present.read_all}
use Rattle.lft_stream.proofs.reads.has_read_each.Goals as goal

pub shown-present-requires : goal.shown-present-requires
shown-present-requires c =
    let plan = c.args.plan.now in
    let x = c.inputs-names.ensures.0 in
    let names = c.inputs-names.result.now in
    let own : names ≡ inputs x = c.inputs-names.ensures.2 in
    let n = c.item_at.result in
    let is : slice_get plan.program.reactions c.args.reaction ≡ Some x = ap (λ (p : Parts). slice_get p.reactions c.args.reaction) (sym c.program-program.ensures.value) ∙ c.inputs-names.ensures.1 in
    let m : Mem n (inputs x) = subst (λ (ns : List Name). Mem n ns) own (mem_get names c.loop-seat.seat n c.item_at.ensures) in
    record { name = (input_known plan.program c.program-program.ensures.sound.sound c.args.reaction x is n m, input_awaited plan.program c.args.reaction x is n m); long = c.requires.long }

pub returns : goal.returns
returns c = λ z d u shown.
    let x = c.inputs-names.ensures.0 in
    let names = c.inputs-names.result.now in
    let own : names ≡ inputs x = c.inputs-names.ensures.2 in
    let is : slice_get c.args.plan.now.program.reactions c.args.reaction ≡ Some x = ap (λ (p : Parts). slice_get p.reactions c.args.reaction) (sym c.program-program.ensures.value) ∙ c.inputs-names.ensures.1 in
    read_all c.args.plan.now (d ++ u) c.args.slice.tag c.args.reaction x is c.args.rows.now (λ k n e.
    let at : slice_get names k ≡ Some n = ap (λ (ns : List Name). slice_get ns k) own ∙ e in
    let a = slice_get_within names k n at in
    let b = c.loop-seat-test.false in
    c.loop-seat.invariant d u shown k n (omega arith) at)

pub loop-seat-preserved : goal.loop-seat-preserved
loop-seat-preserved c = λ d u shown k n l e. go k n l e (ℕ_discrete k c.loop-seat.seat) d u shown
  where
    plan : PlanParts
    plan = c.args.plan.now

    go : (k : ℕ) (n : Name) → k < c.loop-seat.seat + 1 → slice_get c.inputs-names.result.now k ≡ Some n → Dec (k ≡ c.loop-seat.seat) → (d u : List Row) → AreShown plan d u c.args.slice.tag c.args.writes.now c.args.coming.now.queue → Shows plan (d ++ u) c.args.slice.tag n (read_of (steps_of c.args.rows.now c.args.slice.tag c.args.reaction) n)
    go k n l e (no m) d u shown = c.loop-seat.invariant d u shown k n (omega arith) e
    go k n l e (yes q) d u shown =
        let x = c.inputs-names.ensures.0 in
        let here : slice_get c.inputs-names.result.now c.loop-seat.seat ≡ Some n = ap (λ (j : ℕ). slice_get c.inputs-names.result.now j) (sym q) ∙ e in
        let same : c.item_at.result ≡ n = same_some (slice_get c.inputs-names.result.now c.loop-seat.seat) c.item_at.result n c.item_at.ensures here in
        let seat : slice_get (inputs x) c.loop-seat.seat ≡ Some n = ap (λ (ns : List Name). slice_get ns c.loop-seat.seat) (sym c.inputs-names.ensures.2) ∙ here in
        let read = c.read_at-read.ensures x n c.inputs-names.ensures.1 seat in
        subst (λ (o : Option Value). Shows plan (d ++ u) c.args.slice.tag n o) (sym (c.if-not-are_same.ensures refl) ∙ read) (subst (λ (m : Name). Shows plan (d ++ u) c.args.slice.tag m c.shown-present.result) same (c.shown-present.ensures d u shown))
