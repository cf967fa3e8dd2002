use Rattle.std.proofs.Common.{sym, ◌∙◌}
use Rattle.lft_lists.specs.Bytes.{is_letter, is_word}
use Rattle.lft_whole.proofs.{Names.{run_further, run_identifier}, Searches.{run_is, sees_there}}
use Rattle.lft_whole.proofs.classes.past_word.Goals as goal

pub returns-clause-is : goal.returns-clause-is
returns-clause-is c = sym (run_is is_word c.args.text.now c.args.from c.word_end.result c.word_end.ensures)

pub returns-clause-name : goal.returns-clause-name
returns-clause-name c = λ seen.
    (let letter = sym (sees_there is_letter c.args.text.now c.args.from c.requires) ∙ seen in
    (run_further c.args.text.now c.args.from c.word_end.result c.requires letter c.word_end.ensures, run_identifier c.args.text.now c.args.from c.word_end.result c.requires letter c.word_end.ensures))
