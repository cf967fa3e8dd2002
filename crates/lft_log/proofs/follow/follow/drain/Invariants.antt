use Rattle.std.proofs.Common.{◌≡◌, length}
use Rattle.lft_log.proofs.follow.follow.drain.Given as goal

abbrev pub invariant-loop : goal.invariant-loop
invariant-loop g l = length l.chunk.items ≡ 262144
