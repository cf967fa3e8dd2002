use Rattle.std.proofs.Common.{ap, subst, ◌∙◌}
use Rattle.lft_classes.{specs.inner.{Built.{AreNoted, cores}, Shapes.tables}, proofs.Goings.{made, made_first, none_made}}
use Rattle.lft_classes.proofs.making.shapes_of.Goals as goal

pub returns-clause-shapes : goal.returns-clause-shapes
returns-clause-shapes c =
    let given = none_made _ c.args.main.number (ap cores c.new-shapes.ensures.items) (ap tables c.new-shapes.ensures.items) c.in_ok-known.ensures in
    made _ _ _ c.args.main _ given c.in_ok-add_shape.ensures.adds c.in_ok-fill_all.ensures.goes

pub returns-clause-first : goal.returns-clause-first
returns-clause-first c = made_first _ _ _ c.args.main _ (ap cores c.new-shapes.ensures.items) c.in_ok-add_shape.ensures.adds c.in_ok-fill_all.ensures.goes

pub returns-clause-noted : goal.returns-clause-noted
returns-clause-noted c = subst (λ s. AreNoted s (cores c.fill_all.new.self.shapes.items) (tables c.fill_all.new.self.shapes.items)) c.in_ok-add_shape.ensures.adds.scopes c.in_ok-fill_all.ensures.noted

pub returns-clause-main : goal.returns-clause-main
returns-clause-main c = c.in_ok-fill_all.ensures.goes.main ∙ c.in_ok-add_shape.ensures.adds.main
