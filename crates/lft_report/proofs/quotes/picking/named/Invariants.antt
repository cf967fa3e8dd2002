use Rattle.std.proofs.Common.{◌≡◌, take, flat_map}
use Rattle.lft_report.specs.Quotes.Marks.{named_rows}
use Rattle.lft_report.proofs.quotes.picking.named.Given as goal

abbrev pub invariant-loop-place : goal.invariant-loop-place
invariant-loop-place l = l.quotes.items ≡ flat_map named_rows (take l.place l.facts)
