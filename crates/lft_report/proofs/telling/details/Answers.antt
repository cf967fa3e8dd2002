use Rattle.std.proofs.Common.{[], string_bytes, arith}
use Rattle.lft_report.specs.Told.{fact_words}
use Rattle.lft_ir.proofs.WordsLemmas.Steps.{said_more, said_all}
use Rattle.lft_report.proofs.telling.details.Goals as goal

pub loop-place-preserved : goal.loop-place-preserved
loop-place-preserved c = said_more (fact_words c.args.program.now c.args.rows.now) c.args.facts.now c.loop-place.place c.item_at.result [] (string_bytes c.loop-place.text) (string_bytes c.push_fact.new.text) c.item_at.ensures c.loop-place.invariant c.in_ok-push_fact.ensures

pub returns : goal.returns
returns c = said_all (fact_words c.args.program.now c.args.rows.now) c.args.facts.now c.loop-place.place [] (string_bytes c.loop-place.text) (omega arith) c.loop-place.invariant
