use Rattle.std.proofs.Common.{◌≡◌, [], ◌++◌, take, string_bytes, flat_map}
use Rattle.lft_report.specs.Sentences.{head_words}
use Rattle.lft_report.proofs.sentences.sentence.Given as goal

abbrev pub invariant-loop-place : goal.invariant-loop-place
invariant-loop-place l = string_bytes l.text ≡ [] ++ flat_map (head_words l.program l.rows) (take l.place l.facts)
