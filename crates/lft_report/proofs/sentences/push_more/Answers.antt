use Rattle.std.proofs.Common.{◌++◌, codes}
use Rattle.lft_ir.{specs.Words.Words.tag_words, proofs.WordsLemmas.Steps.also}
use Rattle.lft_report.proofs.sentences.push_more.Goals as goal

pub returns : goal.returns
returns c = also _ _ _ (codes " has more than one event at " ++ tag_words c.args.tag) (codes ", which is outside the profile.\n") (also _ _ _ (codes " has more than one event at ") (tag_words c.args.tag) (c.in_ok-push_str.ensures.bytes) (c.in_ok-push_tag.ensures)) (c.in_ok-push_str-2.ensures.bytes)
