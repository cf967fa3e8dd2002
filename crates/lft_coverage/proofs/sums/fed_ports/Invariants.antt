use Rattle.lft_graph.specs.Counts.{Count}
use Rattle.lft_coverage.specs.Sums.{IsFed}
use Rattle.lft_coverage.proofs.sums.fed_ports.Given as goal

abbrev pub invariant-loop-number : goal.invariant-loop-number
invariant-loop-number l = Count (IsFed l.program) l.number l.many
