use Rattle.std.proofs.Common.{◌≡◌, map, take}
use Rattle.lft_lower.specs.inner.Needed.{needed_in}
use Rattle.lft_lower.proofs.instances.needed.Given as goal

abbrev pub invariant-loop-place : goal.invariant-loop-place
invariant-loop-place l = l.counts.items ≡ map needed_in (take l.place l.shapes)
