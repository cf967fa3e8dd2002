use Rattle.std.proofs.Common.{◌≡◌, ◌<◌, length, sym, subst, arith, Some, slice_get}
use Rattle.lft_lists.specs.{Walks.IsCircle, inner.Walking.{IsOrder, IsWalked, Leads}}
use Rattle.lft_graph.specs.{Loops.IsLoopOf, inner.Walks.{IsStep, IsTurned, members_in}}
use Rattle.lft_graph.proofs.{Levelling.{loop_back, on_circle}, levels.levels.Goals.In-Circle}
use Rattle.lft_graph.proofs.levels.levels.Goals as goal

pub levels_along-requires-clause-order : goal.levels_along-requires-clause-order
levels_along-requires-clause-order c =
    let before = c.args.before.now in
    let is : IsOrder (Leads (members_in before)) (length before) c.in-Order.order.items = subst (IsWalked (members_in before) (length before)) c.in-Order.is c.in_ok-order.ensures in
    subst (IsOrder (Leads (members_in before)) (length before)) (sym c.deref.ensures.value) is

-- what the walk found
circle : (c : goal.In-Circle) → IsCircle (Leads (members_in c.args.before.now)) c.in-Circle.circle.items
circle c = subst (IsWalked (members_in c.args.before.now) (length c.args.before.now)) c.in-Circle.is c.in_ok-order.ensures

pub turned_back-requires-clause-some : goal.turned_back-requires-clause-some
turned_back-requires-clause-some c =
    let some = (circle ((goal.at.turned_back-requires-clause-some c).In-Circle)).some in
    subst (λ l. 0 < length l) (sym c.deref-in-Circle.ensures.value) some

pub turned_back-requires-clause-small : goal.turned_back-requires-clause-small
turned_back-requires-clause-small c i a at =
    let is = circle ((goal.at.turned_back-requires-clause-small c).In-Circle) in
    let l = on_circle c.args.before.now c.in-Circle.circle.items is i a (subst (λ l. slice_get l i ≡ Some a) c.deref-in-Circle.ensures.value at) in
    let few = c.requires.few in
    let all : a < 10000 = omega arith in
    omega arith

pub returns-in_ok-turned_back-in-Circle-clause-cycle : goal.returns-in_ok-turned_back-in-Circle-clause-cycle
returns-in_ok-turned_back-in-Circle-clause-cycle c l e =
    let before = c.args.before.now in
    let is = circle ((goal.at.returns-in_ok-turned_back-in-Circle-clause-cycle c).In-Circle) in
    let turned = subst (λ t. IsTurned t c.in_ok-turned_back-in-Circle.field-0) c.deref-in-Circle.ensures.value c.in_ok-turned_back-in-Circle.ensures in
    let q : c.in_ok-turned_back-in-Circle.field-0 ≡ l = cc in
    subst (IsLoopOf (IsStep before)) q (loop_back before c.in-Circle.circle.items c.in_ok-turned_back-in-Circle.field-0 is turned)
