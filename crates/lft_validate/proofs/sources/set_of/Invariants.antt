use Rattle.std.proofs.Common.{take}
use Rattle.lft_validate.specs.inner.Seen.{has_seen}
use Rattle.lft_resolve.specs.inner.{References.ref_trees, Tests.IsTestOf}
use Rattle.lft_validate.proofs.sources.set_of.Given as goal

abbrev pub invariant-loop-name : goal.invariant-loop-name
invariant-loop-name l = IsTestOf (has_seen l.set) (ref_trees (take l.name-index l.names))
