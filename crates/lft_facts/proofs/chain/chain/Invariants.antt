use Rattle.std.proofs.Common.{◌-◌, slice_index_or}
use Rattle.lft_facts.proofs.Upstream.{ChainTo}
use Rattle.lft_facts.proofs.chain.chain.Given as goal

abbrev pub invariant-loop-after : goal.invariant-loop-after
invariant-loop-after l = ChainTo l.plan l.graph l.next l.facts.items l.first l.at l.last

abbrev pub decreases-loop-after : goal.decreases-loop-after
decreases-loop-after l = slice_index_or l.graph.levels l.last 0 - slice_index_or l.graph.levels l.at 0
