use Rattle.std.proofs.Common.{◌≡◌, [], ◌++◌, take, string_bytes, flat_map}
use Rattle.lft_report.specs.Told.{fact_words}
use Rattle.lft_report.proofs.telling.details.Given as goal

abbrev pub invariant-loop-place : goal.invariant-loop-place
invariant-loop-place l = string_bytes l.text ≡ [] ++ flat_map (fact_words l.program l.rows) (take l.place l.facts)
