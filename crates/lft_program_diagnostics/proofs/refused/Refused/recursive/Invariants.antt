use Rattle.std.proofs.Common.{◌≡◌}
use Rattle.lft_program_diagnostics.specs.declared.sentence.Sentence.TheVariants as sentence
use Rattle.lft_program_diagnostics.proofs.refused.Refused.recursive.Given as goal

abbrev pub invariant-loop-place : goal.invariant-loop-place
invariant-loop-place l = l.reason.sentence ≡ sentence.Recursive
