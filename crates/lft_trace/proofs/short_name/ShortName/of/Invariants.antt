use Rattle.std.proofs.Common.{◌≡◌, length, take}
use Rattle.lft_trace.proofs.short_name.ShortName.of.Given as goal

abbrev pub invariant-loop-at : goal.invariant-loop-at
invariant-loop-at l = record { long : length l.bytes ≡ 31; same : take l.at l.bytes ≡ take l.at l.name }
