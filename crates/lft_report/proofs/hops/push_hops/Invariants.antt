use Rattle.std.proofs.Common.{◌≡◌, ◌++◌, ◌≤◌, length, drop, string_bytes}
use Rattle.lft_report.specs.Hops.{hop_words, told_back}
use Rattle.lft_report.proofs.hops.push_hops.Given as goal

abbrev pub invariant-loop-left : goal.invariant-loop-left
invariant-loop-left l = (l.left ≤ length l.ports) × (string_bytes l.text ≡ string_bytes l.initial.text ++ told_back (hop_words l.program l.tag) (drop l.left l.ports))

abbrev pub decreases-loop-left : goal.decreases-loop-left
decreases-loop-left l = l.left
