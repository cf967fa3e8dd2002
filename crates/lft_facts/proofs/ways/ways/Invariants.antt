use Rattle.lft_facts.proofs.Upstream.{WaysFrom}
use Rattle.lft_facts.proofs.ways.ways.Given as goal

abbrev pub invariant-loop-left : goal.invariant-loop-left
invariant-loop-left l = WaysFrom l.graph l.last l.left l.next.items

abbrev pub decreases-loop-left : goal.decreases-loop-left
decreases-loop-left l = l.left
