use Rattle.std.proofs.Common.{List, Option, ◌≡◌, ◌∙◌, subst, IfOk}
use Rattle.lft_ir.specs.declared.parts.Value.{Value}
use Rattle.lft_rows.proofs.AnswersLemmas.Made.{run_reads}
use Rattle.lft_rows.proofs.answers.runs.reads_of_run.Goals as goal

pub returns : goal.returns
returns c =
    let start = c.args.start in
    subst (λ (os : List (Option Value)). IfOk c.reads_of_steps.result (λ reads. reads ≡ os)) (run_reads c.args.plan.now c.args.rows.now start.tag start.reaction c.program.result.now c.program.ensures.value c.reaction-reaction.result.now c.reaction-reaction.ensures.value c.as_slice.result.now (c.as_slice.ensures.value ∙ c.in_ok-read_steps.ensures)) c.reads_of_steps.ensures
