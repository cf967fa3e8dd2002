use Rattle.std.proofs.Common.{◌≡◌, drop, find}
use Rattle.lft_program_diagnostics.specs.Loops.{is_fed}
use Rattle.lft_program_diagnostics.proofs.loops.first_fed.Given as goal

abbrev pub invariant-loop-place : goal.invariant-loop-place
invariant-loop-place l = find (is_fed l.program l.effects) (drop l.place l.names) ≡ find (is_fed l.program l.effects) l.names
