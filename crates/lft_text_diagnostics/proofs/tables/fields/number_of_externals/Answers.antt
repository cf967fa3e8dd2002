use Rattle.std.proofs.Common.{rules, refl, ap, sym, ◌∙◌}
use Rattle.lft_trace.specs.{Numbers.{number, value}, ExternalTables.in_order}
use Rattle.lft_text_diagnostics.{specs.Tables.Tables.field_at, proofs.TablesLemmas.Failing.{there, was_read}}
use Rattle.lft_text_diagnostics.proofs.tables.fields.number_of_externals.Goals as goal

pub returns-clause-none : goal.returns-clause-none
returns-clause-none c program records n fails same =
    let fault = fails.is in
    let x = fault.1 in
    let fields = sym same ∙ fault.3.0 in
    let time = was_read (number 1000000000000000000) c.read_number.result c.field.result.now x.time c.read_number.ensures.value (c.field.ensures ∙ ap (λ l. field_at l 1) fields ∙ there (in_order x) 1 x.time refl) (search rules) in
    let micro = was_read (number 1000000000) c.read_number-2.result c.field-2.result.now x.microstep c.read_number-2.ensures.value (c.field-2.ensures ∙ ap (λ l. field_at l 2) fields ∙ there (in_order x) 2 x.microstep refl) (search rules) in
    let carried = was_read value c.read_value.result c.field-3.result.now x.value c.read_value.ensures (c.field-3.ensures ∙ ap (λ l. field_at l 4) fields ∙ there (in_order x) 4 x.value refl) (search rules) in
    (let none = fault.4 in search rules)
