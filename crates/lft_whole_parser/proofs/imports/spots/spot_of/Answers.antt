use Rattle.lft_whole_parser.proofs.imports.spots.spot_of.Goals as goal

pub returns : goal.returns
returns c = record { start = c.place_of-place.result.start; begins = c.place_of-place.ensures.start; line = c.place_of-place.ensures.line; column = c.place_of-place.ensures.column }
