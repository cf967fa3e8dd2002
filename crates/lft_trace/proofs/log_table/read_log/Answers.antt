use Rattle.std.proofs.Common.{subst}
use Rattle.lft_ir.specs.Parts.{Parts}
use Rattle.lft_trace.{specs.inner.LogTables.ReadsLines, proofs.{LogTableFacts.{inputs_fit, rows_fit}, log_table.read_log.Goals.In-Ok}}
use Rattle.lft_tables.specs.Records.{records_of}
use Rattle.lft_trace.proofs.log_table.read_log.Goals as goal

read : (c : In-Ok) → ReadsLines c.args.program.now (records_of c.args.text.now) c.in-Ok.ensures.0 c.in-Ok.read
read c = subst (λ (p : Parts). ReadsLines p (records_of c.args.text.now) c.in-Ok.ensures.0 c.in-Ok.read) c.with-names.ensures c.in-Ok.ensures.3

pub returns-in-Ok-clause-read : goal.returns-in-Ok-clause-read
returns-in-Ok-clause-read c =
    let t = c.in-Ok.ensures.0 in
    let is = read (goal.at.returns-in-Ok-clause-read c).In-Ok in
    (t, c.in-Ok.ensures.1, rows_fit c.args.program.now (records_of c.args.text.now) t c.in-Ok.read c.keeps.ensures.sound is c.in-Ok.ensures.2, is)

pub returns-in-Ok-clause-inputs : goal.returns-in-Ok-clause-inputs
returns-in-Ok-clause-inputs c = inputs_fit c.args.program.now (records_of c.args.text.now) c.in-Ok.ensures.0 c.in-Ok.read (read (goal.at.returns-in-Ok-clause-inputs c).In-Ok)
