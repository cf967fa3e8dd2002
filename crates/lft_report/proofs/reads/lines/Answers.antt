use Rattle.std.proofs.Common.{[], string_bytes, arith}
use Rattle.lft_report.specs.Reads.{read_line}
use Rattle.lft_ir.proofs.WordsLemmas.Steps.{said_more, said_all}
use Rattle.lft_report.proofs.reads.lines.Goals as goal

pub loop-place-preserved : goal.loop-place-preserved
loop-place-preserved c = said_more (read_line c.args.program.now c.args.widths) c.args.facts.now c.loop-place.place c.item_at.result [] (string_bytes c.loop-place.text) (string_bytes c.push_read.new.text) c.item_at.ensures c.loop-place.invariant c.in_ok-push_read.ensures

pub returns : goal.returns
returns c = said_all (read_line c.args.program.now c.args.widths) c.args.facts.now c.loop-place.place [] (string_bytes c.loop-place.text) (omega arith) c.loop-place.invariant
