use Rattle.std.proofs.Common.{◌≡◌, ◌++◌, drop, None, string_bytes}
use Rattle.lft_report.specs.Quotes.Quoted.{lines}
use Rattle.lft_report.proofs.quotes.quoting.lines_of.Given as goal

abbrev pub invariant-loop-place : goal.invariant-loop-place
invariant-loop-place l = string_bytes l.text ++ lines l.program l.rows l.widths l.before (drop l.place l.quotes) ≡ lines l.program l.rows l.widths None l.quotes
