use Rattle.lft_monitor.proofs.Furthest.{AreFar, IsMarked}
use Rattle.lft_monitor.proofs.kept.furthest_of.Given as goal

abbrev pub invariant-loop-number : goal.invariant-loop-number
invariant-loop-number l = AreFar l.program (IsMarked l.marked) l.furthest.items l.number
