use Rattle.std.proofs.Common.{rules, ◌≡◌, sym, Some, None}
use Rattle.csv.{specs.Records.{field_at, fields_of}, proofs.RecordFacts.{field-get, field-there}}
use Rattle.lft_tables.proofs.records.field.Goals as goal

pub returns-in-Some : goal.returns-in-Some
returns-in-Some c =
    let e : field_at (fields_of c.args.fields.now) c.args.at ≡ Some c.in-Some.field.now = search rules in
    sym (field-get (fields_of c.args.fields.now) c.args.at c.in-Some.field.now e)

pub returns-in-None : goal.returns-in-None
returns-in-None c =
    let e : field_at (fields_of c.args.fields.now) c.args.at ≡ None = search rules in
    absurd (field-there (fields_of c.args.fields.now) c.args.at c.requires e)
