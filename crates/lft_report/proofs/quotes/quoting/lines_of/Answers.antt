use Rattle.std.proofs.Common.{string_bytes, arith}
use Rattle.lft_report.proofs.QuotesLemmas.Lines.{lines_more, lines_end}
use Rattle.lft_report.proofs.quotes.quoting.lines_of.Goals as goal

pub loop-place-preserved : goal.loop-place-preserved
loop-place-preserved c = lines_more c.args.program.now c.args.rows.now c.args.widths c.loop-place.before c.args.quotes.now c.loop-place.place c.item_at-quote.result (string_bytes c.loop-place.text) (string_bytes c.push_gap.new.text) (string_bytes c.push_quote.new.text) _ c.item_at-quote.ensures c.in_ok-push_gap.ensures c.in_ok-push_quote.ensures c.loop-place.invariant

pub returns : goal.returns
returns c = lines_end c.args.program.now c.args.rows.now c.args.widths c.loop-place.before c.args.quotes.now c.loop-place.place (string_bytes c.loop-place.text) _ (omega arith) c.loop-place.invariant
