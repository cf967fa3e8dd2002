use Rattle.std.proofs.Common.{length, subst}
use Rattle.lft_lists.specs.{Walks.IsCircle as IsCircleOf, inner.Walking.{IsOrder, IsWalked, Leads}}
use Rattle.lft_validate.specs.inner.Circles.{instances_in}
use Rattle.lft_validate.proofs.{Circles.{circle_from, circle_recursive}, Founding.none_recursive, circle.circle_of.Goals.In-Circle}
use Rattle.lft_validate.proofs.circle.circle_of.Goals as goal

-- what the walk found
circle : (c : goal.In-Circle) → IsCircleOf (Leads (instances_in c.args.contents.now)) c.in-Circle.circle.items
circle c = subst (IsWalked (instances_in c.args.contents.now) (length c.args.contents.now)) c.in-Circle.is c.in_ok-walk_all.ensures

pub returns-clause-circle : goal.returns-clause-circle
returns-clause-circle c rs all = circle_from rs c.args.contents.now all c.in-Circle.circle.items (circle ((goal.at.returns-clause-circle c).In-Circle))

pub returns-clause-some : goal.returns-clause-some
returns-clause-some c rs all = circle_recursive rs c.in-Circle.circle.items (circle_from rs c.args.contents.now all c.in-Circle.circle.items (circle ((goal.at.returns-clause-some c).In-Circle)))

pub returns-in-Order-clause-none : goal.returns-in-Order-clause-none
returns-in-Order-clause-none c rs all =
    let is : IsOrder (Leads (instances_in c.args.contents.now)) (length c.args.contents.now) c.in-Order.field-0.items = subst (IsWalked (instances_in c.args.contents.now) (length c.args.contents.now)) c.in-Order.is c.in_ok-walk_all.ensures in
    none_recursive rs c.args.contents.now all c.in-Order.field-0.items is
