use Rattle.std.proofs.Common.{refl, ◌∙◌}
use Rattle.lft_classes.specs.inner.Shapes.{inside, tables}
use Rattle.lft_classes.proofs.nesting.order_of.Goals as goal

pub visits-preserved : goal.visits-preserved
visits-preserved c = record { walk = c.in_ok-step.ensures.walk 0 c.visits.invariant.walk; main = c.in_ok-step.ensures.main ∙ c.visits.invariant.main }

pub visits-init : goal.visits-init
visits-init c = record { walk = c.in_ok-walk.ensures.walk (inside (tables c.args.shapes.now)); main = refl }

pub returns-clause-order : goal.returns-clause-order
returns-clause-order c = c.into_listed.ensures.list (inside (tables c.args.shapes.now)) 0 (c.in_ok-step.ensures.over c.if-not-branch.true) (c.in_ok-step.ensures.walk 0 c.visits.invariant.walk)

pub returns-clause-main : goal.returns-clause-main
returns-clause-main c = c.in_ok-step.ensures.main ∙ c.visits.invariant.main
