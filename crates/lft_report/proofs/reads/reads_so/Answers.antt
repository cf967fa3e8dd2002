use Rattle.std.proofs.Common.{[], arith}
use Rattle.lft_report.specs.Reads.{read_so}
use Rattle.lft_ir.proofs.WordsLemmas.Steps.{said_more, said_all}
use Rattle.lft_report.proofs.reads.reads_so.Goals as goal

pub loop-place-preserved : goal.loop-place-preserved
loop-place-preserved c = said_more (read_so c.args.same) c.args.facts.now c.loop-place.place c.item_at.result [] c.loop-place.reads.items c.push_so.new.reads.items c.item_at.ensures c.loop-place.invariant c.in_ok-push_so.ensures

pub returns : goal.returns
returns c = said_all (read_so c.args.same) c.args.facts.now c.loop-place.place [] c.loop-place.reads.items (omega arith) c.loop-place.invariant
