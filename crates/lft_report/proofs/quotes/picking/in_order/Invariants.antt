use Rattle.std.proofs.Common.{◌≡◌, [], take, fold}
use Rattle.lft_report.specs.Quotes.Picked.{inserted}
use Rattle.lft_report.proofs.quotes.picking.in_order.Given as goal

abbrev pub invariant-loop-place : goal.invariant-loop-place
invariant-loop-place l = l.quotes.items ≡ fold inserted [] (take l.place l.named)
