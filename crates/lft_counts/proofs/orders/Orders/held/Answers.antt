use Rattle.std.proofs.Common.{◌≡◌, ◌+◌, List, Some, length, slice_get, sym, subst, arith}
use Rattle.lft_counts.specs.declared.orders.Order.{Order}
use Rattle.lft_counts.proofs.{Held.{Has, has, has_not, held_all}, orders.Orders.held.Goals.{then-item_at-ne0, else-item_at-ne0}}
use Rattle.lft_graph.{specs.Counts.{Count, none, more, same}, proofs.Counting.count_within}
use Rattle.lft_counts.proofs.orders.Orders.held.Goals as goal

pub loop-place-init : goal.loop-place-init
loop-place-init c = none

pub overflow_add-many : goal.overflow_add-many
overflow_add-many c = omega (arith, count_within c.loop-place.invariant)

pub loop-place-preserved : goal.loop-place-preserved
loop-place-preserved c =
    let all = c.args.self.now.all.items in
    let k = c.loop-place.place in
    let x = c.item_at.result in
    let e : slice_get c.args.self.now.all.items c.loop-place.place ≡ Some c.item_at.result = subst (λ (z : List Order). slice_get z c.loop-place.place ≡ Some c.item_at.result) c.as_slice.ensures.value c.item_at.ensures in
    elim c.if-item_at-ne0.branch [
      | then-item_at-ne0 w ↦ subst (λ n. Count (Has (λ x. x.both) all) (k + 1) n) (sym w.many-is) (more (has (λ x. x.both) all k x e w.if-item_at-ne0.true) c.loop-place.invariant)
      | else-item_at-ne0 w ↦ subst (λ n. Count (Has (λ x. x.both) all) (k + 1) n) (sym w.many-is) (same (has_not (λ x. x.both) all k x e w.if-item_at-ne0.false) c.loop-place.invariant)
    ]

pub returns : goal.returns
returns c t n i so =
    let e : c.loop-place.place ≡ length c.args.self.now.all.items = omega arith in
    held_all t n i c.args.self.now c.loop-place.many so (subst (λ k. Count (Has (λ x. x.both) c.args.self.now.all.items) k c.loop-place.many) e c.loop-place.invariant)
