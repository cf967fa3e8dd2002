use Rattle.lft_tables.specs.inner.TableLines.{text_left}
use Rattle.lft_trace.proofs.ExternalReading.{ReadUpTo}
use Rattle.lft_trace.proofs.reading.externals.read_inputs.Given as goal

abbrev pub invariant-loop-batch : goal.invariant-loop-batch
invariant-loop-batch g l = record { read : ReadUpTo l.program (text_left g.R.Read.remaining l.fn.text) (text_left g.R.Read.remaining l.text) l.kept }
