use Rattle.std.proofs.Common.{rules, ◌≡◌, Some, string_bytes, subst, sym}
use Rattle.std.proofs.lemmas.Result.{IfOk-weaker}
use Rattle.lft_tables.specs.Records.{records_of}
use Rattle.lft_text_diagnostics.specs.{Tables.Tables.{ContinuesFrom, field_line, heading, table_line_words}, inner.Tables.Tables.{FailsThere, word_of}}
use Rattle.lft_text_diagnostics.proofs.TablesLemmas.Failing.{failing, line_in}
use Rattle.lft_text_diagnostics.proofs.tables.tables.tell.Goals as goal

pub returns-in-BadFieldCount-clause-told : goal.returns-in-BadFieldCount-clause-told
returns-in-BadFieldCount-clause-told c =
    let line = c.in-BadFieldCount.line in
    let numbered : line_in c.args.fault ≡ Some line = search rules in
    let head : heading (word_of c.args.table) c.args.fault ≡ table_line_words (word_of c.args.table) line = search rules in
    IfOk-weaker c.tell_record.result _ _ (λ words told fails.
    let f = failing c.args.program.now (records_of c.args.text.now) c.args.table c.args.fault line numbered fails in
    subst (λ h. ContinuesFrom h (string_bytes words)) (sym head) (told f.0 f.1)) c.tell_record.ensures

pub returns-in-BadEvent-clause-told : goal.returns-in-BadEvent-clause-told
returns-in-BadEvent-clause-told c =
    let line = c.in-BadEvent.line in
    let numbered : line_in c.args.fault ≡ Some line = search rules in
    let of_field : field_line c.in-BadEvent.fault ≡ Some line = search rules in
    let same : c.args.fault ≡ c.in-BadEvent.fault = cc in
    let head : heading (word_of c.args.table) c.args.fault ≡ table_line_words (word_of c.args.table) line = search rules in
    IfOk-weaker c.tell_field.result _ _ (λ words told fails.
    let f = failing c.args.program.now (records_of c.args.text.now) c.args.table c.args.fault line numbered fails in
    subst (λ h. ContinuesFrom h (string_bytes words)) (sym head) (told of_field f.0 f.1 (subst (λ e. FailsThere c.args.program.now c.args.table (records_of c.args.text.now) f.0 e) same f.2))) c.tell_field.ensures.told
