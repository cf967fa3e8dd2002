use Rattle.std.proofs.Common.{◌++◌, codes}
use Rattle.lft_ir.{specs.Words.{Words.tag_words, Lines.line_words}, proofs.WordsLemmas.Steps.also}
use Rattle.lft_report.proofs.neighbours.push_last_row.Goals as goal

pub returns : goal.returns
returns c = also _ _ _ (codes "  The last row of the trace is " ++ line_words c.args.row ++ codes ", at " ++ tag_words c.args.tag ++ codes "; the stop is " ++ tag_words c.args.stop) (codes ".\n") (also _ _ _ (codes "  The last row of the trace is " ++ line_words c.args.row ++ codes ", at " ++ tag_words c.args.tag ++ codes "; the stop is ") (tag_words c.args.stop) (also _ _ _ (codes "  The last row of the trace is " ++ line_words c.args.row ++ codes ", at " ++ tag_words c.args.tag) (codes "; the stop is ") (also _ _ _ (codes "  The last row of the trace is " ++ line_words c.args.row ++ codes ", at ") (tag_words c.args.tag) (also _ _ _ (codes "  The last row of the trace is " ++ line_words c.args.row) (codes ", at ") (also _ _ _ (codes "  The last row of the trace is ") (line_words c.args.row) (c.in_ok-push_str.ensures.bytes) (c.in_ok-push_line.ensures)) (c.in_ok-push_str-2.ensures.bytes)) (c.in_ok-push_tag.ensures)) (c.in_ok-push_str-3.ensures.bytes)) (c.in_ok-push_tag-2.ensures)) (c.in_ok-push_str-4.ensures.bytes)
