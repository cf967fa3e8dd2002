use Rattle.std.proofs.Common.{◌≡◌, ◌++◌, codes, take, flat_map, string_bytes}
use Rattle.std.specs.Prelude.{zip}
use Rattle.lft_program_diagnostics.specs.Loops.{step_words, turned_by_one}
use Rattle.lft_program_diagnostics.proofs.loops.tell_loop.Given as goal

abbrev pub invariant-loop-place : goal.invariant-loop-place
invariant-loop-place l = string_bytes l.out ≡ codes "Program: these reactions wait for one another at one tag.\n" ++ flat_map (λ p. step_words l.program p.0 p.1) (take l.place (zip l.reactions (turned_by_one l.reactions)))
