use Rattle.std.proofs.Common.{[], string_bytes, arith}
use Rattle.lft_report.specs.Sentences.{head_words}
use Rattle.lft_ir.proofs.WordsLemmas.Steps.{said_more, said_all}
use Rattle.lft_report.proofs.sentences.sentence.Goals as goal

pub loop-place-preserved : goal.loop-place-preserved
loop-place-preserved c = said_more (head_words c.args.program.now c.args.rows.now) c.args.facts.now c.loop-place.place c.item_at.result [] (string_bytes c.loop-place.text) (string_bytes c.push_head.new.text) c.item_at.ensures c.loop-place.invariant c.in_ok-push_head.ensures

pub returns : goal.returns
returns c = said_all (head_words c.args.program.now c.args.rows.now) c.args.facts.now c.loop-place.place [] (string_bytes c.loop-place.text) (omega arith) c.loop-place.invariant
