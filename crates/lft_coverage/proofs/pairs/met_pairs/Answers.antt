use Rattle.std.proofs.Common.{◌≡◌, length, subst, arith}
use Rattle.lft_graph.proofs.{Counting.count_within, Once.{Rows, and_row, no_rows, rows_within}}
use Rattle.lft_coverage.{specs.inner.Pairs.IsCountedWith, proofs.Together.met_once}
use Rattle.lft_coverage.proofs.pairs.met_pairs.Goals as goal

pub loop-reaction-init : goal.loop-reaction-init
loop-reaction-init c = no_rows

pub overflow_add-many : goal.overflow_add-many
overflow_add-many c =
    let few = c.reactions-reaction-end.ensures.sound.limits.reactions in
    let so_far = rows_within few c.loop-reaction.invariant in
    let more = count_within c.pairs_with-many.ensures in
    omega (arith, few, so_far, more)

pub loop-reaction-preserved : goal.loop-reaction-preserved
loop-reaction-preserved c = and_row c.loop-reaction.invariant c.pairs_with-many.ensures

pub returns : goal.returns
returns c =
    let n = length c.args.program.now.reactions in
    let all : c.loop-reaction.reaction ≡ length c.args.program.now.reactions = omega arith in
    met_once c.args.overlaps.now n c.loop-reaction.many (subst (λ k. Rows (IsCountedWith c.args.overlaps.now) (length c.args.program.now.reactions) k c.loop-reaction.many) all c.loop-reaction.invariant)
