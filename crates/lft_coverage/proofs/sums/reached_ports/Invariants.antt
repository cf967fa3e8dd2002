use Rattle.lft_graph.specs.Counts.{Count}
use Rattle.lft_coverage.specs.Sums.{IsReached}
use Rattle.lft_coverage.proofs.sums.reached_ports.Given as goal

abbrev pub invariant-loop-number : goal.invariant-loop-number
invariant-loop-number l = Count (IsReached l.program l.writes) l.number l.many
