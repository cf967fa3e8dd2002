use Rattle.std.proofs.Common.{◌+◌, sym, subst, arith}
use Rattle.lft_counts.{specs.Counts.IsOver, proofs.{Numbers.{is_over, not_over}, many.how_many.Goals.{then-item_at-ne0, else-item_at-ne0}}}
use Rattle.lft_graph.{specs.Counts.{Count, none, more, same}, proofs.Counting.count_within}
use Rattle.lft_counts.proofs.many.how_many.Goals as goal

pub loop-place-init : goal.loop-place-init
loop-place-init c = none

pub overflow_add-many : goal.overflow_add-many
overflow_add-many c = omega (arith, count_within c.loop-place.invariant)

pub loop-place-preserved : goal.loop-place-preserved
loop-place-preserved c = elim c.if-item_at-ne0.branch [
  | then-item_at-ne0 w ↦ subst (λ n. Count (IsOver c.args.counts.now) (c.loop-place.place + 1) n) (sym w.many-is) (more (is_over c.args.counts.now c.loop-place.place c.item_at.result c.item_at.ensures w.if-item_at-ne0.true) c.loop-place.invariant)
  | else-item_at-ne0 w ↦ subst (λ n. Count (IsOver c.args.counts.now) (c.loop-place.place + 1) n) (sym w.many-is) (same (not_over c.args.counts.now c.loop-place.place c.item_at.result c.item_at.ensures w.if-item_at-ne0.false) c.loop-place.invariant)
]
