use Rattle.std.specs.Prelude.{List}
use Rattle.lft_ir.specs.declared.steps.row.Row.{Row}
use Rattle.lft_trace.specs.inner.Batches.{AreNext}
use Rattle.lft_stream.specs.inner.Batches.Progresses.{IsProgress}
use Rattle.lft_stream.proofs.batches.reader.accepts_records.Given as goal

abbrev pub invariant-loop-batch : goal.invariant-loop-batch
invariant-loop-batch g l = record { read : (t : List Row) × IsProgress l.plan t l.progress × AreNext g.R.Read.remaining l.plan.program l.fn.records l.records t }
