use Rattle.std.proofs.Common.{inl, inr, string_bytes, subst}
use Rattle.lft_driver.specs.{declared.refused.Start.Start, Meaning.{IsNoTrace, IsTrace}, Told.{HaveNoMeaning, IsPlanned, TellsInputsOrLoop}}
use Rattle.lft_driver.specs.inner.Told.{ReadsProgram}
use Rattle.lft_driver.proofs.Telling.{meant, none_by_program, none_by_trace, none_by_unplanned, of_found, some_so}
use Rattle.lft_lists.proofs.Options.{found, lacking, ok_none}
use Rattle.lft_driver.proofs.refused.refusal_of_texts.Goals as goal

pub returns-in-Refused-clause-no_meaning : goal.returns-in-Refused-clause-no_meaning
returns-in-Refused-clause-no_meaning c = none_by_program c.args.program.now c.args.externals.now c.args.trace.now (subst (λ (s : Start). ReadsProgram c.args.program.now s) c.in-Refused.is c.in_ok-flat.ensures).0

pub returns-in-Refused-clause-tells : goal.returns-in-Refused-clause-tells
returns-in-Refused-clause-tells c = inl (inl (subst (λ (s : Start). ReadsProgram c.args.program.now s) c.in-Refused.is c.in_ok-flat.ensures).1)

pub returns-in-Some-clause-no_meaning : goal.returns-in-Some-clause-no_meaning
returns-in-Some-clause-no_meaning c =
    let only = subst (λ (s : Start). ReadsProgram c.args.program.now s) c.in-Program.is c.in_ok-flat.ensures in
    none_by_unplanned c.args.program.now c.args.externals.now c.in-Program.flat only c.args.trace.now (some_so c.in_ok-words.field-0 c.in-Some.words _ c.in-Some.is c.in_ok-words.ensures.no_plan)

pub returns-in-Some-clause-tells : goal.returns-in-Some-clause-tells
returns-in-Some-clause-tells c =
    let flat = c.in-Program.flat in
    let only = subst (λ (s : Start). ReadsProgram c.args.program.now s) c.in-Program.is c.in_ok-flat.ensures in
    inl (inr (record { it = flat; is_only = only; said = found (λ told. TellsInputsOrLoop flat c.args.externals.now (string_bytes told)) c.in_ok-words.field-0 c.in-Some.words c.in_ok-words.ensures.tells c.in-Some.is }))

pub returns-clause-no_meaning : goal.returns-clause-no_meaning
returns-clause-no_meaning c =
    let only = subst (λ (s : Start). ReadsProgram c.args.program.now s) c.in-Program.is c.in_ok-flat.ensures in
    of_found c.refusal_of_trace.result (λ _. IsNoTrace c.in-Program.flat c.args.trace.now) (λ _. HaveNoMeaning c.args.program.now c.args.externals.now c.args.trace.now) (λ _ h. none_by_trace c.args.program.now c.args.externals.now c.in-Program.flat only c.args.trace.now h) c.refusal_of_trace.ensures.no_trace

pub returns-clause-none : goal.returns-clause-none
returns-clause-none c =
    let only = subst (λ (s : Start). ReadsProgram c.args.program.now s) c.in-Program.is c.in_ok-flat.ensures in
    let planned : IsPlanned c.in-Program.flat c.args.externals.now = lacking _ c.in_ok-words.field-0 c.in_ok-words.ensures.none c.in-None.is in
    ok_none (IsTrace c.in-Program.flat c.args.trace.now) _ c.refusal_of_trace.result (λ is. meant c.args.program.now c.args.externals.now c.in-Program.flat only planned c.args.trace.now is) c.refusal_of_trace.ensures.none
