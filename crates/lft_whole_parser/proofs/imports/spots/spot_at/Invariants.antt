use Rattle.lft_whole_parser.specs.Imports.Places.{IsSpotOfByte}
use Rattle.lft_whole_parser.proofs.imports.spots.spot_at.Given as goal

abbrev pub invariant-loop-at : goal.invariant-loop-at
invariant-loop-at l = IsSpotOfByte l.text l.at l.here
