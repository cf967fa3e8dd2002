use Rattle.std.proofs.Common.{◌≡◌, ◌≤◌, drop, length}
use Rattle.lft_whole.specs.inner.Tokens.{StandBetween}
use Rattle.lft_whole_parser.{specs.Imports.Places.IsSpotOfByte, proofs.ImportsLemmas.Columns.SoFar}
use Rattle.lft_whole_parser.proofs.imports.spots.spots.Given as goal

abbrev pub invariant-loop-place : goal.invariant-loop-place
invariant-loop-place l = record {
  is_spot : IsSpotOfByte l.text l.from l.spot;
  inside : l.from ≤ length l.text;
  rest : StandBetween l.text l.from (drop l.place l.tokens) (length l.text);
  many : length l.spots.items ≡ l.place;
  so_far : SoFar l.text l.tokens l.place l.spots.items;
}
