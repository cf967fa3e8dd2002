use Rattle.std.proofs.Common.{◌≡◌, ◌*◌, ◌/◌, ◌-◌, length, ap, subst, arith}
use Rattle.lft_graph.{specs.{Counts.CountPairs, Precedence.HaveOrder}, proofs.{Numbered.none_loops, Once.pairs_not}}
use Rattle.lft_graph.proofs.unordered.unordered_pairs.Goals as goal

pub ordered_pairs-requires-clause-no_loop : goal.ordered_pairs-requires-clause-no_loop
ordered_pairs-requires-clause-no_loop c = none_loops c.args.program.now c.args.graph.now c.requires

pub overflow_sub-result : goal.overflow_sub-result
overflow_sub-result c =
    let others = pairs_not c.ordered_pairs.ensures in
    let all = others.2 in
    let square = ap (λ k. k * k) c.reactions-reactions.ensures.count in
    omega (arith, all, square, c.reactions-reactions.ensures.count)

pub returns : goal.returns
returns c =
    let others = pairs_not c.ordered_pairs.ensures in
    let all = others.2 in
    let square = ap (λ k. k * k) c.reactions-reactions.ensures.count in
    let so : others.0 ≡ (c.reactions-reactions.result * c.reactions-reactions.result - c.reactions-reactions.result) / 2 - c.ordered_pairs.result = omega (arith, all, square, c.reactions-reactions.ensures.count) in
    subst (λ n. CountPairs (λ a b. HaveOrder c.args.program.now a b → ⊥) (length c.args.program.now.reactions) n) so others.1
