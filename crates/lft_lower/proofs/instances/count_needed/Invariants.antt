use Rattle.std.proofs.Common.{◌≡◌, ◌≤◌, length, take}
use Rattle.std.specs.Prelude.{count_by}
use Rattle.lft_elaborate.specs.Channels.Channels.{below}
use Rattle.lft_lower.specs.inner.Needed.{is_needed}
use Rattle.lft_lower.proofs.instances.count_needed.Given as goal

abbrev pub invariant-loop-parameter : goal.invariant-loop-parameter
invariant-loop-parameter l = (l.count ≡ count_by (is_needed l.shape) (take l.parameter (below (length l.shape.parameters.items)))) × (l.count ≤ l.parameter)
