use Rattle.std.proofs.Common.{◌≡◌, [], ◌++◌, take, flat_map}
use Rattle.lft_report.specs.Reads.{read_so}
use Rattle.lft_report.proofs.reads.reads_so.Given as goal

abbrev pub invariant-loop-place : goal.invariant-loop-place
invariant-loop-place l = l.reads.items ≡ [] ++ flat_map (read_so l.same) (take l.place l.facts)
