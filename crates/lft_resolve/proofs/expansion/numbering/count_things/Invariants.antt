use Rattle.std.proofs.Common.{◌≡◌, min, take}
use Rattle.lft_resolve.specs.inner.Expansion.Numbers.{things}
use Rattle.lft_resolve.proofs.expansion.numbering.count_things.Given as goal

abbrev pub invariant-instances : goal.invariant-instances
invariant-instances l = l.total ≡ min (things l.counts (take l.number l.instances)) 18446744073709551615
