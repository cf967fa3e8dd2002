use Rattle.std.proofs.Common.{◌≡◌, ℕ}
use Rattle.lft_lists.proofs.Options.{lacking}
use Rattle.lft_classes.{specs.inner.Needs.{IsParameterIn, IsTimeIn}, proofs.{Marking.{marks_as, marks_none}, Passing.{time_none, time_one}}}
use Rattle.lft_classes.proofs.deciding.Needs.note_time.Goals as goal

pub returns-in_default-clause-timed : goal.returns-in_default-clause-timed
returns-in_default-clause-timed c = marks_none (IsTimeIn c.args.shape.now c.args.value.now) c.args.self.now.timed.items (λ n h. (let e = h.1 in let f = c.in_default.is in absurd (cc)))

pub returns-in_default-named-clause-timed : goal.returns-in_default-named-clause-timed
returns-in_default-named-clause-timed c =
    let shape = c.args.shape.now in
    let e = c.in-Some.value in
    marks_none (IsTimeIn shape c.args.value.now) c.args.self.now.timed.items (time_none shape c.args.value.now e c.in-Some.is (lacking ((n : ℕ) → IsParameterIn shape e n → ⊥) c.named.result c.named.ensures.none c.in_default-named.is))

pub returns-clause-timed : goal.returns-clause-timed
returns-clause-timed c =
    let shape = c.args.shape.now in
    let e = c.in-Some.value in
    let n = c.in-Some-named.parameter in
    marks_as (λ k. k ≡ n) (IsTimeIn shape c.args.value.now) _ _ c.mark.ensures (time_one shape c.args.value.now e n c.in-Some.is c.in-Some-named.ensures.some)
