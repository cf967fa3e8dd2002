use Rattle.std.proofs.Common.{◌≡◌, ◌+◌, true, false, refl, sym, subst, arith}
use Rattle.lft_graph.{proofs.Counting.count_within, specs.Counts.{Count, none, more, same}}
use Rattle.lft_coverage.{specs.Sums.IsFed, proofs.sums.fed_ports.Goals.{then-is_fed, else-is_fed}}
use Rattle.lft_coverage.proofs.sums.fed_ports.Goals as goal

pub loop-number-init : goal.loop-number-init
loop-number-init c = none

pub overflow_add-many : goal.overflow_add-many
overflow_add-many c = omega (arith, count_within c.loop-number.invariant)

pub loop-number-preserved : goal.loop-number-preserved
loop-number-preserved c = elim c.if-is_fed.branch [
  | then-is_fed w ↦ subst (λ n. Count (IsFed c.args.program.now) (c.loop-number.number + 1) n) (sym w.many-is) (more (w.if-is_fed.ensures.0 refl) c.loop-number.invariant)
  | else-is_fed w ↦ subst (λ n. Count (IsFed c.args.program.now) (c.loop-number.number + 1) n) (sym w.many-is) (same (λ e. let z : ◌≡◌ false true = w.if-is_fed.ensures.1 e in absurd (cc)) c.loop-number.invariant)
]
