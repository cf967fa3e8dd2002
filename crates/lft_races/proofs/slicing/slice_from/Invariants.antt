use Rattle.lft_races.proofs.Racing.{AtTag}
use Rattle.lft_races.proofs.slicing.slice_from.Given as goal

abbrev pub invariant-loop-end : goal.invariant-loop-end
invariant-loop-end l = AtTag l.rows l.tag l.first l.end
