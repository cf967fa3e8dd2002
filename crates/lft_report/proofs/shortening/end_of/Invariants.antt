use Rattle.std.proofs.Common.{◌≡◌, ◌++◌, take, drop}
use Rattle.lft_report.specs.Shortened.{shortened}
use Rattle.lft_report.proofs.shortening.end_of.Given as goal

-- what stands before the place is printed, and of what stands behind it the lines that are left
abbrev pub invariant-loop-at : goal.invariant-loop-at
invariant-loop-at l = shortened l.lines l.bytes ≡ take l.at l.bytes ++ shortened l.left (drop l.at l.bytes)
