use Rattle.std.proofs.Common.{◌≡◌, length}
use Rattle.lft_counts.proofs.inputs.all_inputs.Given as goal

abbrev pub invariant-loop-number : goal.invariant-loop-number
invariant-loop-number l = length l.all.items ≡ l.number
