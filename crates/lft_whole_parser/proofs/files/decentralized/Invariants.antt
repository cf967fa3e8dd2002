use Rattle.std.proofs.Common.{◌≡◌, ◌-◌}
use Rattle.std.specs.Prelude.{find}
use Rattle.lft_whole_parser.specs.Files.{decentralized_at, decentralized, places_from}
use Rattle.lft_whole.specs.inner.Parts.Parsing.{source}
use Rattle.lft_whole_parser.proofs.files.decentralized.Given as goal

abbrev pub invariant-loop-at : goal.invariant-loop-at
invariant-loop-at l = find (decentralized_at (source l.input) l.end) (places_from l.at (l.end - l.at)) ≡ decentralized (source l.input) l.first l.end
