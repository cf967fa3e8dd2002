use Rattle.std.proofs.Common.{rules, ◌≡◌, ◌&&◌, ◌||◌, not, Bool, true, false, refl, sym, ap, ◌∙◌}
use Rattle.lft_trace.specs.{Numbers.{number, number_or_zero, value}, Traces.{has_numbers, in_order}}
use Rattle.lft_text_diagnostics.{specs.Tables.Tables.field_at, proofs.TablesLemmas.Failing.{there, was_read}}
use Rattle.lft_text_diagnostics.proofs.tables.fields.number_of_trace.Goals as goal

-- a row whose fields are all numbers has its numbers, whichever it has to have
all : (a b m v d : Bool) → a ≡ true → b ≡ true → m ≡ true → v ≡ true → d ≡ true → (h k : Bool) → (a && b && m && (not h || v) && (not k || d)) ≡ true
all true true true true true _ _ _ _ _ true true = refl
all true true true true true _ _ _ _ _ true false = refl
all true true true true true _ _ _ _ _ false true = refl
all true true true true true _ _ _ _ _ false false = refl
all false b m v d e _ _ _ _ h k = absurd (cc)
all true false m v d _ e _ _ _ h k = absurd (cc)
all true true false v d _ _ e _ _ h k = absurd (cc)
all true true true false d _ _ _ e _ h k = absurd (cc)
all true true true true false _ _ _ _ e h k = absurd (cc)

never : false ≡ true → ⊥
never e = absurd (cc)

pub returns-clause-none : goal.returns-clause-none
returns-clause-none c program n line (is, x, kind, of, none) =
    let fields = of.0 in
    let worker = was_read (number 4294967295) c.read_number.result c.field.result.now x.worker c.read_number.ensures.value (c.field.ensures ∙ ap (λ l. field_at l 1) fields ∙ there (in_order x) 1 x.worker refl) (search rules) in
    let time = was_read (number 1000000000000000000) c.read_number-2.result c.field-2.result.now x.time c.read_number-2.ensures.value (c.field-2.ensures ∙ ap (λ l. field_at l 2) fields ∙ there (in_order x) 2 x.time refl) (search rules) in
    let micro = was_read (number 1000000000) c.read_number-3.result c.field-3.result.now x.microstep c.read_number-3.ensures.value (c.field-3.ensures ∙ ap (λ l. field_at l 3) fields ∙ there (in_order x) 3 x.microstep refl) (search rules) in
    let carried = was_read value c.read_value.result c.field-4.result.now x.value c.read_value.ensures (c.field-4.ensures ∙ ap (λ l. field_at l 6) fields ∙ there (in_order x) 6 x.value refl) (search rules) in
    let delay = was_read (number_or_zero 1000000000000000000) c.read_number_or_zero.result c.field-5.result.now x.delay c.read_number_or_zero.ensures.value (c.field-5.ensures ∙ ap (λ l. field_at l 7) fields ∙ there (in_order x) 7 x.delay refl) (search rules) in
    let whole : has_numbers kind x ≡ true = all _ _ _ _ _ worker time micro carried delay _ _ in
    never (sym none ∙ whole)
