use Rattle.lft_trace.{specs.{inner.Seen.trace_fields, Traces.in_order}, proofs.{RowsBack.one_written, trace_writer.write_fields.Goals.{in-Ok, in-Err}}}
use Rattle.lft_trace.proofs.trace_writer.write_fields.Goals as goal

pub returns : goal.returns
returns c = elim c.match-write_fields.branch [
  | in-Ok w ↦ rw w.result-is (λ before h.
      let e = w.in-Ok.ensures in
      one_written c.args.writer.now c.write_fields.new.self before (in_order (trace_fields c.args.fields.now)) (rw c.as_slice.ensures at e.bytes) e.ended e.clean e.setup h)
  | in-Err w ↦ rw w.result-is tt
]
