use Rattle.std.proofs.Common.{ℕ, string_bytes, subst}
use Rattle.lft_lists.proofs.Options.{lacking}
use Rattle.lft_classes.specs.{inner.Needs.{IsParameter, IsParameterIn, IsPassed}, Needs.{Times, Widths}}
use Rattle.lft_classes.proofs.{Marking.{marks_as, marks_none}, Passing.passed_one}
use Rattle.lft_classes.proofs.deciding.Needs.note_assignment.Goals as goal

pub returns-in_default-named-clause-sized : goal.returns-in_default-named-clause-sized
returns-in_default-named-clause-sized c = marks_none (IsPassed Widths c.args.shape.now c.args.inner.now c.args.assignment.now) c.args.self.now.sized.items (λ n h. lacking ((n : ℕ) → IsParameterIn c.args.shape.now c.args.assignment.now.value n → ⊥) c.named.result c.named.ensures.none c.in_default-named.is n h.3)

pub returns-in_default-named-clause-timed : goal.returns-in_default-named-clause-timed
returns-in_default-named-clause-timed c = marks_none (IsPassed Times c.args.shape.now c.args.inner.now c.args.assignment.now) c.args.self.now.timed.items (λ n h. lacking ((n : ℕ) → IsParameterIn c.args.shape.now c.args.assignment.now.value n → ⊥) c.named.result c.named.ensures.none c.in_default-named.is n h.3)

pub returns-clause-sized : goal.returns-clause-sized
returns-clause-sized c =
    let shape = c.args.shape.now in
    let inner = c.args.inner.now in
    let assignment = c.args.assignment.now in
    let needed = c.in-Some.needed in
    let n = c.in-Some-named.parameter in
    let is : IsParameter inner (string_bytes assignment.name.text) needed = subst (λ q. IsParameter inner q needed) c.as_str.ensures.value c.in-Some.ensures.some in
    marks_as _ (IsPassed Widths shape inner assignment) _ _ c.mark_if.ensures (passed_one Widths shape inner assignment needed n c.is_sized.result is c.in-Some-named.ensures.some c.is_sized.ensures)

pub returns-clause-timed : goal.returns-clause-timed
returns-clause-timed c =
    let shape = c.args.shape.now in
    let inner = c.args.inner.now in
    let assignment = c.args.assignment.now in
    let needed = c.in-Some.needed in
    let n = c.in-Some-named.parameter in
    let is : IsParameter inner (string_bytes assignment.name.text) needed = subst (λ q. IsParameter inner q needed) c.as_str.ensures.value c.in-Some.ensures.some in
    marks_as _ (IsPassed Times shape inner assignment) _ _ c.mark_if-2.ensures (passed_one Times shape inner assignment needed n c.is_timed.result is c.in-Some-named.ensures.some c.is_timed.ensures)
