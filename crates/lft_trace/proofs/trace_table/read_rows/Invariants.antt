use Rattle.std.proofs.Common.{◌<◌, ◌-◌, IfSome, length}
use Rattle.lft_tables.{specs.{inner.Records.in_memory, Records.records_of}, proofs.TableFacts.Read}
use Rattle.lft_trace.specs.Traces.{trace_tables}
use Rattle.lft_trace.proofs.trace_table.read_rows.Given as goal

abbrev pub invariant-lines : goal.invariant-lines
invariant-lines l = Read in_memory (trace_tables l.names) (records_of l.fn.text) l.rows.items l.records × IfSome l.last (λ r. r < length l.names.reactions)

abbrev pub decreases-lines : goal.decreases-lines
decreases-lines l = l.records.last - l.records.line
