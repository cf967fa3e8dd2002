use Rattle.std.proofs.Common.{◌≡◌, take, fold}
use Rattle.lft_report.specs.Quotes.Quoted.{widened}
use Rattle.lft_report.proofs.quotes.quoting.greatest.Given as goal

abbrev pub invariant-loop-place : goal.invariant-loop-place
invariant-loop-place l = l.widths ≡ fold (widened l.program l.rows) (record { line = 0; row = 0 }) (take l.place l.quotes)
