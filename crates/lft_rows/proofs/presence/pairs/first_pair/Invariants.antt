use Rattle.std.proofs.Common.{◌-◌, length}
use Rattle.lft_rows.proofs.PresenceLemmas.Paired.{IsScanned}
use Rattle.lft_rows.proofs.presence.pairs.first_pair.Given as goal

abbrev pub invariant-loop-place : goal.invariant-loop-place
invariant-loop-place l = IsScanned l.causes l.ports l.name l.place

abbrev pub decreases-loop-place : goal.decreases-loop-place
decreases-loop-place l = length l.causes - l.place
