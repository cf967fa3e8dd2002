use Rattle.std.proofs.Common.{◌≡◌, ◌∙◌, subst, IfOk}
use Rattle.lft_model.specs.Runs.{Answer}
use Rattle.lft_rows.proofs.AnswersLemmas.Made.{run_answer}
use Rattle.lft_rows.proofs.answers.runs.answer_of_run.Goals as goal

pub returns : goal.returns
returns c =
    let start = c.args.start in
    subst (λ (a : Answer). IfOk c.answer_of_steps.result (λ answer. answer ≡ a)) (run_answer c.args.plan.now c.args.rows.now start.tag start.reaction c.program.result.now c.program.ensures.value c.reaction.result.now c.reaction.ensures.value c.as_slice.result.now (c.as_slice.ensures.value ∙ c.in_ok-read_steps.ensures) c.as_slice-effects.result.now c.as_slice-effects.ensures) c.answer_of_steps.ensures
