use Rattle.std.proofs.Common.{string_bytes, arith}
use Rattle.lft_report.specs.Reasons.{spaced}
use Rattle.lft_ir.proofs.WordsLemmas.Steps.{also, said_more, said_all}
use Rattle.lft_report.proofs.reasons.push_each.Goals as goal

pub loop-place-preserved : goal.loop-place-preserved
loop-place-preserved c = said_more (spaced c.args.program.now) c.args.names.now c.loop-place.place c.item_at.result (string_bytes c.args.text.now) (string_bytes c.loop-place.text) (string_bytes c.push_name.new.text) c.item_at.ensures c.loop-place.invariant (also _ _ _ _ _ c.in_ok-push_str.ensures.bytes c.in_ok-push_name.ensures)

pub returns : goal.returns
returns c = said_all (spaced c.args.program.now) c.args.names.now c.loop-place.place (string_bytes c.args.text.now) (string_bytes c.loop-place.text) (omega arith) c.loop-place.invariant
