use Rattle.lft_whole_parser.proofs.ImportsLemmas.Columns.{spot_first}
use Rattle.lft_whole_parser.proofs.imports.spots.first.Goals as goal

pub returns : goal.returns
returns c = spot_first c.args.text.now
