use Rattle.std.proofs.Common.{◌≡◌, ◌<◌, Some, length, slice_get, refl, arith}
use Rattle.std.proofs.lemmas.Option.{slice_get_read}
use Rattle.lft_whole.specs.declared.tree.Assignment.{Assignment}
use Rattle.lft_classes.{specs.{inner.Needs.{IsPassed, IsPassedIn}, Needs.{Times, Widths}}, proofs.Marking.{below_all, below_more}}
use Rattle.lft_classes.proofs.deciding.Needs.note_given.Goals as goal

pub loop-assignment-preserved : goal.loop-assignment-preserved
loop-assignment-preserved c =
    let given = c.args.given.now in
    let shape = c.args.shape.now in
    let inner = c.args.inner.now in
    let i = c.loop-assignment.assignment-index in
    let assignment = c.assignment-item.result in
    let within : i < length given = omega arith in
    let there : slice_get given i ≡ Some assignment = slice_get_read given (length given) i assignment refl within c.assignment-item.is in
    record {
      sized = below_more (λ k (a : Assignment). IsPassed Widths shape inner a) given i assignment _ _ _ there c.loop-assignment.invariant.sized c.note_assignment.ensures.sized;
      timed = below_more (λ k (a : Assignment). IsPassed Times shape inner a) given i assignment _ _ _ there c.loop-assignment.invariant.timed c.note_assignment.ensures.timed;
    }

pub returns-clause-sized : goal.returns-clause-sized
returns-clause-sized c =
    let shape = c.args.shape.now in
    let inner = c.args.inner.now in
    let given = c.args.given.now in
    below_all (λ k (a : Assignment). IsPassed Widths shape inner a) given c.loop-assignment.assignment-index (IsPassedIn Widths shape inner given) _ _ c.loop-assignment-test.false c.loop-assignment.invariant.sized (λ n. (λ h. h, λ h. h))

pub returns-clause-timed : goal.returns-clause-timed
returns-clause-timed c =
    let shape = c.args.shape.now in
    let inner = c.args.inner.now in
    let given = c.args.given.now in
    below_all (λ k (a : Assignment). IsPassed Times shape inner a) given c.loop-assignment.assignment-index (IsPassedIn Times shape inner given) _ _ c.loop-assignment-test.false c.loop-assignment.invariant.timed (λ n. (λ h. h, λ h. h))
