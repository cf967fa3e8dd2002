use Rattle.std.proofs.Common.{[]}
use Rattle.lft_trace.{specs.Traces.header, proofs.RowsBack.once_written}
use Rattle.lft_trace.proofs.trace_writer.write_header.Goals as goal

pub returns : goal.returns
returns c = once_written [] c.args.writer.now c.write_fields.new.writer header c.write_fields.result c.requires c.write_fields.ensures
