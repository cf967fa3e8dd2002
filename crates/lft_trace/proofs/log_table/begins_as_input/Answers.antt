use Rattle.std.proofs.Common.{rules, ◌≡◌, refl}
use Rattle.csv.specs.Records.{fields_of}
use Rattle.lft_trace.specs.{ExternalTables.{in_order, word}, inner.SeenExternals.external_fields}
use Rattle.lft_trace.proofs.log_table.begins_as_input.Goals as goal

pub returns-in-Some-read_entry_kind : goal.returns-in-Some-read_entry_kind
returns-in-Some-read_entry_kind c =
    let kind = c.in-Some-read_entry_kind.field-0 in
    let f = external_fields c.in-Some.fields in
    let e : fields_of c.args.fields.now ≡ in_order f = search rules in
    let w : f.kind ≡ word kind = search rules in
    (λ yes. (kind, f, (e, w)), λ is. refl)
