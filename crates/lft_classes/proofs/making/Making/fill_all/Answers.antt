use Rattle.std.proofs.Common.{◌≡◌, Some, option_copied, slice_get, sym, ap, subst, ◌∙◌, arith}
use Rattle.lft_lists.proofs.Mapped.{mapped}
use Rattle.lft_resolve.proofs.Placing.{lent}
use Rattle.lft_classes.{specs.inner.{Built.{IsNoted, core, cores}, Shapes.tables}, proofs.Goings.{goes_nowhere, goes_further, noted_all, noted_more}}
use Rattle.lft_classes.proofs.making.Making.fill_all.Goals as goal

pub loop-shape-init : goal.loop-shape-init
loop-shape-init c = record { goes = goes_nowhere _ _; noted = λ s d lt at. absurd (omega (arith, lt)) }

pub loop-shape-preserved : goal.loop-shape-preserved
loop-shape-preserved c =
    let before = c.loop-shape.invariant in
    let old = c.loop-shape.self.shapes.items in
    let shape = c.loop-shape.shape in
    let found = c.in-Some.found.now in
    let there : slice_get old shape ≡ Some found = ap (λ l. slice_get l shape) (sym c.deref.ensures.value) ∙ sym (lent c.deref.result.now shape c.get.result c.get.ensures.lookup) ∙ ap option_copied c.in-Some.is in
    let at : slice_get (cores old) shape ≡ Some (core found) = mapped core old shape found there in
    let filled = c.in_ok-fill.ensures in
    let this : IsNoted c.args.self.now.scopes (tables c.fill.new.self.shapes.items) shape (core found) = subst (λ s. IsNoted s (tables c.fill.new.self.shapes.items) shape (core found)) before.goes.scopes (filled.noted (core found) at (sym (c.len-count.ensures ∙ found.members.ok.0))) in
    record {
      goes = goes_further _ _ _ _ before.goes filled.goes;
      noted = noted_more c.args.self.now.scopes old c.fill.new.self.shapes.items shape (core found) at filled.goes.kept filled.others before.noted this;
    }

pub returns-in-None-clause-noted : goal.returns-in-None-clause-noted
returns-in-None-clause-noted c =
    let old = c.loop-shape.self.shapes.items in
    noted_all c.args.self.now.scopes old c.loop-shape.shape (ap (λ l. slice_get l c.loop-shape.shape) (sym c.deref.ensures.value) ∙ sym (lent c.deref.result.now c.loop-shape.shape c.get.result c.get.ensures.lookup) ∙ ap option_copied c.in-None.is) c.loop-shape.invariant.noted
