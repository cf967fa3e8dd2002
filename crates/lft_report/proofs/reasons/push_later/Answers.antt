use Rattle.std.proofs.Common.{◌++◌, codes}
use Rattle.lft_ir.{specs.Words.Lines.{capital_line_words, tag_at}, proofs.WordsLemmas.Steps.also}
use Rattle.lft_report.proofs.reasons.push_later.Goals as goal

pub returns : goal.returns
returns c = also _ _ _ (((codes "  " ++ capital_line_words c.args.later) ++ codes " is the first at a later tag, ") ++ tag_at c.args.rows.now c.args.later) (codes ".\n") (also _ _ _ ((codes "  " ++ capital_line_words c.args.later) ++ codes " is the first at a later tag, ") (tag_at c.args.rows.now c.args.later) (also _ _ _ (codes "  " ++ capital_line_words c.args.later) (codes " is the first at a later tag, ") (also _ _ _ (codes "  ") (capital_line_words c.args.later) c.in_ok-push_str.ensures.bytes c.in_ok-push_capital_line.ensures) c.in_ok-push_str-2.ensures.bytes) c.in_ok-push_tag_at.ensures) c.in_ok-push_str-3.ensures.bytes
