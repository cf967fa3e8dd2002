use Rattle.std.proofs.Common.{◌≡◌, None, replicate}
use Rattle.lft_elaborate.proofs.values.nothing.Given as goal

abbrev pub invariant-loop-more : goal.invariant-loop-more
invariant-loop-more g l = l.list.items ≡ replicate l._more None
