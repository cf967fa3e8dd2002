use Rattle.std.proofs.Common.{◌≡◌, ◌≤◌, drop}
use Rattle.lft_trace.{specs.Numbers.number, proofs.Digits.number_after}
use Rattle.lft_trace.proofs.number.read_long.Given as goal

abbrev pub invariant-loop-at : goal.invariant-loop-at
invariant-loop-at l = record {
  small : l.number ≤ l.limit;
  same : number_after l.limit l.number (drop l.at l.field) ≡ number l.limit l.field;
}
