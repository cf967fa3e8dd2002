use Rattle.std.proofs.Common.{inl, inr, subst}
use Rattle.std.specs.Io.KnownBytes.{Appends}
use Rattle.lft_ir.specs.Parts.{Parts}
use Rattle.lft_tables.specs.Records.{records_of}
use Rattle.lft_trace.proofs.TraceFacts.{one_table}
use Rattle.lft_load.specs.Written.{AppendsFront}
use Rattle.lft_driver.specs.{Lines.line_of, Meaning.HasTable}
use Rattle.lft_driver.specs.Refusals.{CheckRefusal.by_growth, JudgingRefusal.{by_check, by_writer}, JudgeRefusalUnder.by_judging}
use Rattle.lft_driver.proofs.Judging.{accepted_runs, growth_untold, write_untold}
use Rattle.lft_driver.proofs.judge.tell.Goals as goal

pub returns-in-Ok-clause-judged : goal.returns-in-Ok-clause-judged
returns-in-Ok-clause-judged g c = λ trace right.
    let plan = c.args.plan.now in
    let verdict = c.args.verdict in
    record {
      rows = right.0;
      has_table = record { is = right.1; only = λ other h. one_table plan.program (records_of trace) right.0 other c.program.ensures.sound.sound right.1 h };
      right = right.2;
      one_worker = accepted_runs plan right.0 c.law_one_worker.ensures.runs c.law_one_worker.ensures.precedence verdict right.2;
      written = subst (λ (p : Parts). Appends (g.W.Write.contents c.args.out.now) (g.W.Write.contents c.report.new.out) (line_of p verdict)) c.program.ensures.value c.in-Ok.ensures.written;
    }

pub returns-in-Err-clause-fault : goal.returns-in-Err-clause-fault
returns-in-Err-clause-fault g c = elim c.in-Err.ensures.front [
  | inl x ↦ inl x
  | inr x ↦ inr (x.0, x.1)
]

pub returns-in-Err-clause-refused : goal.returns-in-Err-clause-refused
returns-in-Err-clause-refused g c = λ trace workers right lawful.
    let plan = c.args.plan.now in
    let verdict = c.args.verdict in
    let has : HasTable plan.program trace right.0 = record { is = right.1; only = λ other h. one_table plan.program (records_of trace) right.0 other c.program.ensures.sound.sound right.1 h } in
    by_judging right.0 has (elim c.in-Err.ensures.front [
      | inl x ↦ by_check (by_growth x lawful)
      | inr x ↦ by_writer verdict x.0 x.1 right.2 (subst (λ (p : Parts). AppendsFront (g.W.Write.contents c.args.out.now) (g.W.Write.contents c.report.new.out) (line_of p verdict)) c.program.ensures.value x.2)
    ])

pub returns-in-Err-clause-none : goal.returns-in-Err-clause-none
returns-in-Err-clause-none g c = λ t. elim c.in-Err.ensures.front [
  | inl x ↦ growth_untold c.in-Err.fault x t
  | inr x ↦ write_untold c.in-Err.fault.part c.in-Err.fault.number x.0 t
]
