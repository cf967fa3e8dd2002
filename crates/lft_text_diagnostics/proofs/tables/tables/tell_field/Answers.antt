use Rattle.std.proofs.Common.{◌≡◌, ◌+◌, ◌++◌, [], ◌⊎◌, ℕ, List, Some, ap, codes, inr, ◌∙◌, string_bytes, subst}
use Rattle.std.specs.Prelude.{decimal}
use Rattle.std.proofs.lemmas.Result.{IfOk-weaker}
use Rattle.csv.specs.Records.{fields_of}
use Rattle.lft_tables.specs.Records.{records_of}
use Rattle.lft_text_diagnostics.specs.{declared.diagnostic.Diagnostic.Diagnostic, inner.{Diagnostics.printed, Tables.Tables.{FailsThere, IsWrongIn, word_of}}}
use Rattle.lft_text_diagnostics.specs.Tables.Tables.{ContinuesFrom, HasRecord, NamesField, field_line, field_words, table_line_words}
use Rattle.lft_text_diagnostics.proofs.{Printing.{begins, begins_with}, TablesLemmas.Failing.one_record}
use Rattle.lft_lists.proofs.Options.{found, lacking}
use Rattle.lft_text_diagnostics.proofs.tables.tables.tell_field.Goals as goal

pub returns-clause-field : goal.returns-clause-field
returns-clause-field c =
    let records = records_of c.args.text.now in
    let table = c.args.table in
    let fields = c.in-Some.fields in
    let wrong = c.in-Some-wrong_field.wrong in
    let place = field_words (word_of table) c.args.line wrong in
    let told : Diagnostic = record { place = c.push_field.new.out; sentence = c.push_wrong.new.out; lines = c.push_record.new.out; help = c.push_beside.new.out } in
    IfOk-weaker c.print.result (λ words. string_bytes words ≡ printed told) (λ words. (string_bytes words ≡ []) ⊎ NamesField records (word_of table) c.args.line (IsWrongIn c.args.program.now table c.args.fault) (string_bytes words))
    (λ words is. inr (record {
      fields = fields_of fields;
      has_record = found (λ r. HasRecord records c.args.line (fields_of r)) c.in_ok-fields.field-0 fields c.in_ok-fields.ensures.some c.in-Some.is;
      wrong = wrong;
      holds = c.in-Some-wrong_field.ensures.some;
      begins = begins told place (string_bytes words) is (c.in_ok-push_field.ensures ∙ ap (λ s. s ++ place) c.new-told.ensures.place);
    }))
    c.print.ensures

pub returns-clause-told : goal.returns-clause-told
returns-clause-told c =
    let records = records_of c.args.text.now in
    let table = c.args.table in
    let wrong = c.in-Some-wrong_field.wrong in
    let head = table_line_words (word_of table) c.args.line in
    let rest = codes ", field " ++ decimal (wrong.at + 1) ++ codes " (" ++ wrong.name.now ++ codes "): " in
    let told : Diagnostic = record { place = c.push_field.new.out; sentence = c.push_wrong.new.out; lines = c.push_record.new.out; help = c.push_beside.new.out } in
    IfOk-weaker c.print.result (λ words. string_bytes words ≡ printed told) (λ words. field_line c.args.fault ≡ Some c.args.line → (fields : List (List ℕ)) → HasRecord records c.args.line fields → FailsThere c.args.program.now table records fields c.args.fault → ContinuesFrom head (string_bytes words))
    (λ words is line fields there fails. begins_with head rest (string_bytes words) (begins told (head ++ rest) (string_bytes words) is (c.in_ok-push_field.ensures ∙ ap (λ s. s ++ (head ++ rest)) c.new-told.ensures.place)))
    c.print.ensures

pub returns-in_default-clause-told : goal.returns-in_default-clause-told
returns-in_default-clause-told c line fields there fails = absurd (lacking _ c.in_ok-fields.field-0 c.in_ok-fields.ensures.none c.in_default.is fields there)

pub returns-in_default-wrong_field-clause-told : goal.returns-in_default-wrong_field-clause-told
returns-in_default-wrong_field-clause-told c line fields there fails =
    let records = records_of c.args.text.now in
    let same = one_record records c.args.line fields (fields_of c.in-Some.fields) there (found (λ r. HasRecord records c.args.line (fields_of r)) c.in_ok-fields.field-0 c.in-Some.fields c.in_ok-fields.ensures.some c.in-Some.is) in
    absurd (lacking _ c.wrong_field.result c.wrong_field.ensures.none c.in_default-wrong_field.is c.args.line records line (subst (λ f. FailsThere c.args.program.now c.args.table records f c.args.fault) same fails))
