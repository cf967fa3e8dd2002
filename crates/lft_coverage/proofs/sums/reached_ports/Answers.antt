use Rattle.std.proofs.Common.{◌≡◌, ◌+◌, true, false, refl, sym, subst, arith}
use Rattle.lft_graph.{proofs.Counting.count_within, specs.Counts.{Count, none, more, same}}
use Rattle.lft_coverage.{specs.Sums.IsReached, proofs.sums.reached_ports.Goals.{then-is_reached, else-is_reached}}
use Rattle.lft_coverage.proofs.sums.reached_ports.Goals as goal

pub loop-number-init : goal.loop-number-init
loop-number-init c = none

pub overflow_add-many : goal.overflow_add-many
overflow_add-many c = omega (arith, count_within c.loop-number.invariant)

pub loop-number-preserved : goal.loop-number-preserved
loop-number-preserved c = elim c.if-is_reached.branch [
  | then-is_reached w ↦ subst (λ n. Count (IsReached c.args.program.now c.args.writes.now) (c.loop-number.number + 1) n) (sym w.many-is) (more (w.if-is_reached.ensures.0 refl) c.loop-number.invariant)
  | else-is_reached w ↦ subst (λ n. Count (IsReached c.args.program.now c.args.writes.now) (c.loop-number.number + 1) n) (sym w.many-is) (same (λ e. let z : ◌≡◌ false true = w.if-is_reached.ensures.1 e in absurd (cc)) c.loop-number.invariant)
]
