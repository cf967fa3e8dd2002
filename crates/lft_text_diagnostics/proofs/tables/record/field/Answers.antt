use Rattle.std.proofs.Common.{rules, ◌≡◌, [], sym, ap, Some, None}
use Rattle.std.specs.Prelude.{unwrap_or}
use Rattle.csv.specs.Records.{field_at, fields_of}
use Rattle.lft_text_diagnostics.proofs.tables.record.field.Goals as goal

pub returns-in-Some : goal.returns-in-Some
returns-in-Some c =
    let e : field_at (fields_of c.args.fields.now) c.args.at ≡ Some c.in-Some.field.now = search rules in
    sym (ap (λ o. unwrap_or o []) e)

pub returns-in-None : goal.returns-in-None
returns-in-None c =
    let e : field_at (fields_of c.args.fields.now) c.args.at ≡ None = search rules in
    sym (ap (λ o. unwrap_or o []) e)
