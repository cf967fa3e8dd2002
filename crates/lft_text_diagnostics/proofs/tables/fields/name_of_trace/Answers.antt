use Rattle.std.proofs.Common.{rules, refl, ap, subst, ◌∙◌, ⊎_elim, IfSome}
use Rattle.lft_ir.specs.{Names.IsNamed, declared.found.Found.TheVariants.Reaction}
use Rattle.lft_trace.specs.Traces.{IsThing, in_order}
use Rattle.lft_text_diagnostics.{specs.Tables.Tables.field_at, proofs.TablesLemmas.Failing.{there, found_none}}
use Rattle.lft_text_diagnostics.proofs.tables.fields.name_of_trace.Goals as goal

pub returns-then-is_some-clause-none : goal.returns-then-is_some-clause-none
returns-then-is_some-clause-none c n line (is, x, kind, of, numbers, unknown) =
    let program = c.args.program.now in
    let reaction = c.field-reaction.ensures ∙ ap (λ l. field_at l 4) of.0 ∙ there (in_order x) 4 x.reaction refl in
    let name = c.field-name.ensures ∙ ap (λ l. field_at l 5) of.0 ∙ there (in_order x) 5 x.name refl in
    ⊎_elim
    (λ none. found_none (λ r. IsNamed program.names (Reaction r) x.reaction) c.read_reaction.result (search rules) (subst (λ f. IfSome c.read_reaction.result (λ r. IsNamed program.names (Reaction r) f)) reaction c.read_reaction.ensures.some) none)
    (λ none. found_none (λ n. IsThing program x.name n) c.read_thing.result (search rules) (subst (λ f. IfSome c.read_thing.result (λ n. IsThing program f n)) name c.read_thing.ensures.some) none.1)
    unknown
