use Rattle.std.proofs.Common.{◌≡◌, [], ◌++◌, take, string_bytes, flat_map}
use Rattle.lft_report.specs.Reads.{read_line}
use Rattle.lft_report.proofs.reads.lines.Given as goal

abbrev pub invariant-loop-place : goal.invariant-loop-place
invariant-loop-place l = string_bytes l.text ≡ [] ++ flat_map (read_line l.program l.widths) (take l.place l.facts)
