use Rattle.std.proofs.Common.{◌∙◌}
use Rattle.lft_report.proofs.Texts.{told_parts}
use Rattle.lft_report.proofs.telling.tell.Goals as goal

pub returns : goal.returns
returns c = told_parts c.args.all c.args.program.now c.as_slice-rows.result.now c.args.rows.now c.as_slice-facts.result.now c.args.facts.now _ _ _ _ _ _ _ _ _ _ c.as_slice-rows.ensures c.as_slice-facts.ensures (c.in_ok-text.ensures.items ∙ c.as_bytes.ensures.value ∙ c.in_ok-sentence.ensures) c.in_ok-table.ensures c.in_ok-quotes.ensures c.in_ok-details.ensures c.as_bytes-2.ensures.value c.as_bytes-3.ensures.value c.as_bytes-4.ensures.value c.in_ok-push_part.ensures c.in_ok-push_part-2.ensures c.in_ok-push_part-3.ensures
