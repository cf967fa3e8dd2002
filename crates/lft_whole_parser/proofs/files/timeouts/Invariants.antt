use Rattle.std.proofs.Common.{◌≡◌, ◌-◌, ◌++◌}
use Rattle.std.specs.Prelude.{filter_map}
use Rattle.lft_whole_parser.specs.Files.{timeout_at, timeouts, places_from}
use Rattle.lft_whole.specs.inner.Parts.Parsing.{source}
use Rattle.lft_whole_parser.proofs.files.timeouts.Given as goal

abbrev pub invariant-loop-at : goal.invariant-loop-at
invariant-loop-at l = l.timeouts.items ++ filter_map (timeout_at (source l.input) l.end) (places_from l.at (l.end - l.at)) ≡ timeouts (source l.input) l.first l.end
