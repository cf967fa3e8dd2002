use Rattle.std.proofs.Common.{◌≡◌, ◌++◌, take, drop}
use Rattle.lft_report.specs.Quotes.Picked.{inserted}
use Rattle.lft_report.proofs.quotes.picking.place_for.Given as goal

abbrev pub invariant-loop-place : goal.invariant-loop-place
invariant-loop-place l = inserted l.quotes l.quote ≡ take l.place l.quotes ++ inserted (drop l.place l.quotes) l.quote
