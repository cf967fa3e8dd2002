use Rattle.std.proofs.Common.{◌≡◌, ◌++◌, drop, map, string_bytes}
use Rattle.lft_program_diagnostics.specs.Sentences.{said}
use Rattle.lft_program_diagnostics.proofs.sentence.push_said.Given as goal

abbrev pub invariant-loop-place : goal.invariant-loop-place
invariant-loop-place l = string_bytes l.out ++ said (drop l.place (map (λ w. w.now) l.words)) (drop l.place (map string_bytes l.names)) ≡ string_bytes l.fn.out ++ said (map (λ w. w.now) l.words) (map string_bytes l.names)
