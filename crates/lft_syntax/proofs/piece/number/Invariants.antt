use Rattle.std.proofs.Common.{◌≡◌}
use Rattle.std.specs.Prelude.{slice_range}
use Rattle.lft_syntax.{specs.Lexes.value, proofs.Numbers.value_from}
use Rattle.lft_syntax.proofs.piece.number.Given as goal

abbrev pub invariant-loop-at : goal.invariant-loop-at
invariant-loop-at l = value_from l.number (slice_range l.text l.at l.end) ≡ value l.text l.from l.end
