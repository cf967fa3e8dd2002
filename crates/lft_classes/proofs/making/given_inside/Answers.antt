use Rattle.std.proofs.Common.{◌≡◌, Some, None, option_copied, slice_get, sym, ap, subst, ◌∙◌}
use Rattle.lft_lists.proofs.Places.{same_some}
use Rattle.lft_resolve.proofs.Placing.{lent}
use Rattle.lft_classes.specs.{declared.shapes.Shape.Shape, inner.{Built.AreGiven, Shapes.thing_named}}
use Rattle.lft_classes.proofs.making.given_inside.Goals as goal

pub returns-clause-once : goal.returns-clause-once
returns-clause-once c inner at = c.in_ok-given.ensures.once

pub returns-clause-given : goal.returns-clause-given
returns-clause-given c inner at =
    let there : slice_get c.args.shapes.now c.args.shape ≡ Some c.in-Some.inner.now = sym (lent c.args.shapes.now c.args.shape c.get.result c.get.ensures.lookup) ∙ ap option_copied c.in-Some.is in
    subst (λ (x : Shape). AreGiven (thing_named x) c.args.instance.now.given.items c.in_ok-given.given.items) (same_some (slice_get c.args.shapes.now c.args.shape) c.in-Some.inner.now inner there at) c.in_ok-given.ensures.given

pub returns-in_default-clause-given : goal.returns-in_default-clause-given
returns-in_default-clause-given c inner at =
    let none : slice_get c.args.shapes.now c.args.shape ≡ None = sym (lent c.args.shapes.now c.args.shape c.get.result c.get.ensures.lookup) ∙ ap option_copied c.in_default.is in
    absurd (let e = sym none ∙ at in cc)

pub returns-in_default-clause-once : goal.returns-in_default-clause-once
returns-in_default-clause-once c inner at =
    let none : slice_get c.args.shapes.now c.args.shape ≡ None = sym (lent c.args.shapes.now c.args.shape c.get.result c.get.ensures.lookup) ∙ ap option_copied c.in_default.is in
    absurd (let e = sym none ∙ at in cc)
