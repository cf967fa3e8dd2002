use Rattle.std.proofs.Common.{◌≡◌}
use Rattle.std.specs.Prelude.{slice_range}
use Rattle.lft_whole.specs.Pieces.{digits_from}
use Rattle.lft_whole.proofs.numbers.number.Given as goal

abbrev pub invariant-loop-at : goal.invariant-loop-at
invariant-loop-at l = digits_from l.base l.number (slice_range l.text l.at l.end) ≡ digits_from l.base 0 (slice_range l.text l.from l.end)
