use Rattle.std.proofs.Common.{◌≤◌, ◌∷◌, length, refl, arith}
use Rattle.lft_tables.{specs.Records.records_of, proofs.Beginning.begins_lines}
use Rattle.lft_trace.{specs.Traces.{IsRow, header}, proofs.TraceFacts.table_fits}
use Rattle.lft_trace.proofs.reading.batch.read_batch.Goals as goal

pub returns-clause-rows : goal.returns-clause-rows
returns-clause-rows c = begins_lines (IsRow c.args.names.now) c.args.text.now c.first_lines.result.0.now c.first_lines.result.1.now c.in_ok-rows.rows.items c.first_lines.ensures.cut c.in_ok-rows.ensures

pub returns-clause-fit : goal.returns-clause-fit
returns-clause-fit c =
    let few : length c.in_ok-rows.rows.items ≤ 4000000 = (let f = c.if-len-gt-MAX_ROWS.false in let l = c.len.ensures in omega arith) in
    table_fits c.args.names.now (header ∷ records_of c.first_lines.result.0.now) c.in_ok-rows.rows.items c.program.ensures.sound (record { rest = records_of c.first_lines.result.0.now; under = refl; each = c.in_ok-rows.ensures.1; few = few })
