use Rattle.std.proofs.Common.{false, ◌++◌, length, ap, ◌∙◌}
use Rattle.lft_report.specs.Reads.{input_lines, others_words, reads_so}
use Rattle.lft_report.proofs.reads.table.Goals as goal

pub returns : goal.returns
returns c =
    let program = c.args.program.now in
    c.in_ok-push_others.ensures
    ∙ ap (λ words. words ++ others_words c.len.result) (c.in_ok-push_lines.ensures ∙ ap (λ words. words ++ input_lines program c.as_slice.result.now) c.new-text.ensures.bytes ∙ ap (λ reads. input_lines program reads) (c.as_slice.ensures.value ∙ c.in_ok-differing.ensures))
    ∙ ap (λ count. input_lines program (reads_so false c.args.facts.now) ++ others_words count) (c.len.ensures ∙ c.in_ok-equal.equal.ok.0 ∙ ap (λ reads. length reads) c.in_ok-equal.ensures)
