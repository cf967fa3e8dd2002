use Rattle.std.proofs.Common.{IfSome}
use Rattle.std.proofs.lemmas.{Option.IfSome_then, Result.IfOk-weaker}
use Rattle.lft_tables.specs.{declared.table_lines.TableLines.TableLines, Records.records_of, inner.TableLines.{AreLinesBelow, text_left}}
use Rattle.lft_tables.proofs.Together.{at_some}
use Rattle.lft_trace.{specs.ExternalTables.header, proofs.{ExternalReading.{read_fit, read_table}, ExternalTableFacts.one_table}}
use Rattle.lft_trace.proofs.reading.externals.read_externals_shared.Goals as goal

pub returns-clause-table : goal.returns-clause-table
returns-clause-table g c =
    let remaining = g.R.Read.remaining in
    let program = c.args.program.now in
    let lines = c.in-Some.text in
    let below = at_some (λ (t : TableLines _). IfSome (remaining c.args.source) (AreLinesBelow remaining header t)) c.in_ok-text.field-0 lines c.in-Some.is c.in_ok-text.ensures in
    IfOk-weaker c.read_inputs.result _ _ (λ found h. IfSome_then found h (λ inputs r. IfSome_then (remaining c.args.source) below (λ text u. read_table program (text_left remaining lines) inputs r text u.0 u.1 u.2))) c.read_inputs.ensures

pub returns-clause-one : goal.returns-clause-one
returns-clause-one g c =
    let remaining = g.R.Read.remaining in
    let program = c.args.program.now in
    let lines = c.in-Some.text in
    let below = at_some (λ (t : TableLines _). IfSome (remaining c.args.source) (AreLinesBelow remaining header t)) c.in_ok-text.field-0 lines c.in-Some.is c.in_ok-text.ensures in
    IfOk-weaker c.read_inputs.result _ _ (λ found h. IfSome_then found h (λ inputs r. IfSome_then (remaining c.args.source) below (λ text u other. one_table program (records_of text) inputs other c.keeps.ensures.sound (read_table program (text_left remaining lines) inputs r text u.0 u.1 u.2)))) c.read_inputs.ensures

pub returns-clause-fits : goal.returns-clause-fits
returns-clause-fits g c =
    IfOk-weaker c.read_inputs.result _ _ (λ found h. IfSome_then found h (λ inputs r. read_fit c.args.program.now (text_left g.R.Read.remaining c.in-Some.text) inputs r)) c.read_inputs.ensures
