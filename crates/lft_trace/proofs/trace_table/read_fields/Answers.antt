use Rattle.std.proofs.Common.{rules, ◌≡◌, false, subst}
use Rattle.lft_ir.specs.Parts.{Parts}
use Rattle.lft_trace.{specs.{Traces.is_filled, inner.Seen.{NumbersOf, StepOf, trace_fields}}, proofs.RowFacts.step_is}
use Rattle.lft_trace.proofs.trace_table.read_fields.Goals as goal

pub returns-clause-row : goal.returns-clause-row
returns-clause-row c = λ event.
    let f = trace_fields c.args.fields.now in
    let n : NumbersOf c.args.kind f c.in-Some.numbers = c.in-Some.ensures.some.0 in
    let s : StepOf c.args.names.now c.args.kind f.name c.in-Some.numbers.value c.in-Some.numbers.delay c.in-Some-read_step.step =
    subst (λ (p : Parts). StepOf p c.args.kind f.name c.in-Some.numbers.value c.in-Some.numbers.delay c.in-Some-read_step.step) c.program-program.ensures.value c.in-Some-read_step.ensures.some in
    let e : is_filled c.args.kind f ≡ false = search rules in
    record { event = event; worker = n.worker; time = n.time; microstep = n.microstep; reaction = c.in-Some-read_reaction_of.ensures.some; step = step_is c.args.names.now c.args.kind f c.in-Some.numbers c.in-Some-read_step.step n s e }
