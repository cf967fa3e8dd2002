use Rattle.std.proofs.Common.{◌≡◌, ◌-◌, ◌<◌, length, slice_get, Some, subst, sym, arith}
use Rattle.lft_lists.specs.{Walks.IsCircle, inner.Walking.{IsOrder, IsWalked, Leads}}
use Rattle.lft_resolve.specs.inner.Expansion.Sources.{ports_before}
use Rattle.lft_resolve.proofs.{ExpansionLemmas.Chains.{circle_leads_back, no_cycle}, expansion.origins.find_origins.Goals.In-Circle}
use Rattle.lft_resolve.proofs.expansion.origins.find_origins.Goals as goal

pub reached_along-requires-clause-order : goal.reached_along-requires-clause-order
reached_along-requires-clause-order c =
    let sources = c.args.sources.now in
    let is : IsOrder (Leads (ports_before sources)) (length sources) c.in-Order.order.items = subst (IsWalked (ports_before sources) (length sources)) c.in-Order.is c.in_ok-order.ensures in
    subst (IsOrder (Leads (ports_before sources)) (length sources)) (sym c.deref.ensures.value) is

pub returns-in_ok-reached_along-in-Order-clause-ends : goal.returns-in_ok-reached_along-in-Order-clause-ends
returns-in_ok-reached_along-in-Order-clause-ends c = no_cycle c.args.sources.now c.in_ok-reached_along-in-Order.field-0.items c.in_ok-reached_along-in-Order.ensures

-- what the walk found
circle : (c : goal.In-Circle) → IsCircle (Leads (ports_before c.args.sources.now)) c.in-Circle.circle.items
circle c = subst (IsWalked (ports_before c.args.sources.now) (length c.args.sources.now)) c.in-Circle.is c.in_ok-order.ensures

pub item_at-requires : goal.item_at-requires
item_at-requires c =
    let some : 0 < length c.in-Circle.circle.items = (circle ((goal.at.item_at-requires c).In-Circle)).some in
    rw c.deref-in-Circle.ensures.value (omega arith)

pub returns-in-Circle-clause-cycle : goal.returns-in-Circle-clause-cycle
returns-in-Circle-clause-cycle c =
    let found = c.in-Circle.circle.items in
    let is = circle ((goal.at.returns-in-Circle-clause-cycle c).In-Circle) in
    let long : c.len.result ≡ length found = omega arith in
    let at : slice_get found (c.len.result - 1) ≡ Some c.item_at.result = subst (λ l. slice_get l (c.len.result - 1) ≡ Some c.item_at.result) c.deref-in-Circle.ensures.value c.item_at.ensures in
    circle_leads_back c.args.sources.now found is c.item_at.result (subst (λ n. slice_get found (n - 1) ≡ Some c.item_at.result) long at)
