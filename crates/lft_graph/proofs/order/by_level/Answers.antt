use Rattle.std.proofs.Common.{◌≡◌, length, arith, subst}
use Rattle.lft_graph.proofs.Arranging.{Paired, Arranged, are_by_level}
use Rattle.lft_graph.proofs.order.by_level.Goals as goal

pub returns : goal.returns
returns c =
    let low = c.levels-test.false in
    let high = c.levels.auto.number-end in
    let n : c.levels.number ≡ length c.args.levels.now = omega arith in
    let e = c.len-place-end.ensures in
    let below = c.pairs-test.false in
    let above = c.pairs.auto.place-end in
    let p : c.pairs.place ≡ length c.sort_unstable.new.self.items = omega arith in
    are_by_level c.args.levels.now c.levels.pairs.items c.sort_unstable.new.self.items c.pairs.order.items (subst (λ k. Paired c.args.levels.now c.levels.pairs.items k) n c.levels.invariant) c.sort_unstable.ensures.permutation c.sort_unstable.ensures.sorted (subst (λ k. Arranged c.sort_unstable.new.self.items c.pairs.order.items k) p c.pairs.invariant)
