use Rattle.std.proofs.Common.{◌<◌, ◌-◌, IfSome, length}
use Rattle.lft_tables.specs.Records.{records_of}
use Rattle.lft_trace.proofs.LogTableFacts.{GoneBehind}
use Rattle.lft_trace.proofs.log_table.read_lines_of.Given as goal

abbrev pub invariant-lines : goal.invariant-lines
invariant-lines l = GoneBehind l.names (records_of l.fn.text) l.fn.rows.items l.rows.items l.inputs.items l.records × IfSome l.last (λ r. r < length l.names.reactions)

abbrev pub decreases-lines : goal.decreases-lines
decreases-lines l = l.records.last - l.records.line
