use Rattle.std.proofs.Common.{codes}
use Rattle.lft_ir.specs.Words.{Words.tag_words, Lines.line_words}
use Rattle.lft_report.proofs.Texts.{five}
use Rattle.lft_report.proofs.neighbours.push_run_after.Goals as goal

pub returns : goal.returns
returns c = five _ _ _ _ _ _ (codes "  Its run just after is at ") (tag_words c.args.tag) (codes ", from ") (line_words c.args.start) (codes " on.\n") c.in_ok-push_str.ensures.bytes c.in_ok-push_tag.ensures c.in_ok-push_str-2.ensures.bytes c.in_ok-push_line.ensures c.in_ok-push_str-3.ensures.bytes
