use Rattle.std.proofs.Common.{◌<◌}
use Rattle.lft_whole.specs.{declared.sources.stop.Place.Place, inner.Sources.Tokens.StandsAt}
use Rattle.lft_whole.proofs.sources.source.place_of.Given as goal

abbrev pub invariant-loop-file : goal.invariant-loop-file
invariant-loop-file l = (place : Place) → place.file < l.file → StandsAt l.files l.number place → ⊥
