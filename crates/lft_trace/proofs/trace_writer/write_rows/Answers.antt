use Rattle.std.proofs.Common.{rules, ◌≡◌, Some, slice_get, take}
use Rattle.lft_trace.{specs.Written.written_records, proofs.RowsBack.{words_one, written_one}}
use Rattle.lft_trace.proofs.trace_writer.write_rows.Goals as goal

pub loop-at-preserved : goal.loop-at-preserved
loop-at-preserved c =
    let program = c.args.program.now in
    let rows = c.args.rows.now in
    let at = c.loop-at.at in
    let there : slice_get rows at ≡ Some c.row_at.result = search rules in
    record {
      written = written_one program rows at c.row_at.result c.write_row.new.writer there (c.in_ok-write_row.ensures.written (written_records program (take at rows)) c.loop-at.invariant.written);
      words = words_one rows at c.row_at.result there c.in_ok-write_row.ensures.words c.loop-at.invariant.words;
    }
