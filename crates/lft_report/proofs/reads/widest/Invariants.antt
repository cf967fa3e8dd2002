use Rattle.std.proofs.Common.{◌≡◌, take, fold}
use Rattle.lft_report.specs.Reads.{widened}
use Rattle.lft_report.proofs.reads.widest.Given as goal

abbrev pub invariant-loop-place : goal.invariant-loop-place
invariant-loop-place l = l.widths ≡ fold (widened l.program) (record { name = 5; read = 4; present = 7 }) (take l.place l.facts)
