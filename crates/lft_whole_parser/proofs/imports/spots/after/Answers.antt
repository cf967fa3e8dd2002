use Rattle.std.proofs.Common.{sym, arith}
use Rattle.lft_whole_parser.proofs.ImportsLemmas.Columns.{spot_feed, spot_letter, spot_same, line_bound, column_bound}
use Rattle.lft_whole_parser.proofs.imports.spots.after.Goals as goal

pub overflow_add-result : goal.overflow_add-result
overflow_add-result c = omega (arith, line_bound c.args.text.now c.args.at c.args.spot (omega (arith, c.requires.inside)) c.requires.spot)

pub overflow_add-result-then-begins_letter : goal.overflow_add-result-then-begins_letter
overflow_add-result-then-begins_letter c = omega (arith, column_bound c.args.text.now c.args.at c.args.spot (omega (arith, c.requires.inside)) c.requires.spot)

pub returns-then-byte-eq10 : goal.returns-then-byte-eq10
returns-then-byte-eq10 c = spot_feed c.args.text.now c.args.at c.args.spot c.requires.inside c.if-byte-eq10.true c.requires.spot

pub returns-then-begins_letter : goal.returns-then-begins_letter
returns-then-begins_letter c = spot_letter c.args.text.now c.args.at c.args.spot c.requires.inside c.if-byte-eq10.false (sym c.if-begins_letter.ensures) c.requires.spot

pub returns : goal.returns
returns c = spot_same c.args.text.now c.args.at c.args.spot c.requires.inside c.if-byte-eq10.false (sym c.if-begins_letter.ensures) c.requires.spot
