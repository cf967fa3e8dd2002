use Rattle.std.proofs.Common.{◌≡◌, Some, slice_get, sym, ap, ◌∙◌}
use Rattle.lft_resolve.proofs.Placing.{lent}
use Rattle.lft_classes.proofs.Goings.{added_class, added_keeps, goes_added}
use Rattle.lft_classes.proofs.making.Making.shape_of.Goals as goal

pub returns-clause-goes : goal.returns-clause-goes
returns-clause-goes c = goes_added _ _ c.args.class _ c.in_ok-number.ensures.adds

pub returns-clause-shape : goal.returns-clause-shape
returns-clause-shape c first below all = added_class _ _ c.args.class _ c.in_ok-number.ensures.adds

pub returns-in-Some-Some-clause-shape : goal.returns-in-Some-Some-clause-shape
returns-in-Some-Some-clause-shape c first below all =
    let known = c.args.self.now.known.items in
    let number = c.args.class.number in
    let there : slice_get known number ≡ Some (Some c.in-Some-Some.known) = ap (λ l. slice_get l number) (sym c.deref.ensures.value) ∙ sym (lent c.deref.result.now number c.get.result c.get.ensures.lookup) ∙ sym c.copied.ensures ∙ c.in-Some-Some.is ∙ ap Some c.in-Some-Some.field-0-is in
    all.known number c.in-Some-Some.known there

pub returns-clause-noted : goal.returns-clause-noted
returns-clause-noted c = added_keeps _ _ c.args.class _ c.in_ok-number.ensures.adds
