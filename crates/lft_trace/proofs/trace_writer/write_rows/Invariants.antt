use Rattle.std.proofs.Common.{◌≡◌, ◌<◌, ℕ, Some, slice_get, take}
use Rattle.lft_trace.specs.{inner.SeenWriting.{HasWords, HasWritten}, Written.written_records}
use Rattle.lft_ir.specs.declared.steps.row.Row.{Row}
use Rattle.lft_trace.proofs.trace_writer.write_rows.Given as goal

abbrev pub invariant-loop-at : goal.invariant-loop-at
invariant-loop-at l = record {
  written : HasWritten l.writer (written_records l.program (take l.at l.rows));
  words : (k : ℕ) (row : Row) → k < l.at → slice_get l.rows k ≡ Some row → HasWords row;
}
