use Rattle.std.proofs.Common.{◌≡◌, ◌∙◌, ap, subst, IfOk}
use Rattle.lft_model.specs.Runs.{Answer}
use Rattle.lft_rows.specs.Presence.Traces.{TraceParts}
use Rattle.lft_check.specs.inner.ByTag.Slices.{IsCuttable}
use Rattle.lft_slices.proofs.Told.{starts_within, starts, told_answer, fits, keeps}
use Rattle.lft_slices.proofs.cuts.Cut.answer.Goals as goal

pub row_at-start-requires : goal.row_at-start-requires
row_at-start-requires c = starts_within c.args.self.now c.rows-rows.result.now (c.rows-rows.ensures.value ∙ ap (λ (z : TraceParts). z.rows) c.sliced.ensures) c.requires.0 c.args.piece c.requires.1

pub answer_of_run-requires-clause-fit : goal.answer_of_run-requires-clause-fit
answer_of_run-requires-clause-fit c = fits c.args.self.now c.rows-rows.result.now (c.rows-rows.ensures.value ∙ ap (λ (z : TraceParts). z.rows) c.sliced.ensures) (subst (λ (z : TraceParts). IsCuttable z) c.sliced.ensures c.rows-rows.ensures.rules) c.plan.result.now (c.plan.ensures ∙ ap (λ (z : TraceParts). z.plan) c.presence.ensures)

pub answer_of_run-requires-clause-rules : goal.answer_of_run-requires-clause-rules
answer_of_run-requires-clause-rules c = keeps c.args.self.now c.rows-rows.result.now (c.rows-rows.ensures.value ∙ ap (λ (z : TraceParts). z.rows) c.sliced.ensures) (subst (λ (z : TraceParts). IsCuttable z) c.sliced.ensures c.rows-rows.ensures.rules) c.plan.result.now (c.plan.ensures ∙ ap (λ (z : TraceParts). z.plan) c.presence.ensures)

pub answer_of_run-requires-clause-starts : goal.answer_of_run-requires-clause-starts
answer_of_run-requires-clause-starts c = starts c.args.self.now c.rows-rows.result.now (c.rows-rows.ensures.value ∙ ap (λ (z : TraceParts). z.rows) c.sliced.ensures) c.args.piece c.row_at-start.result c.row_at-start.ensures c.requires.0 c.requires.1

pub returns : goal.returns
returns c g is_piece = subst (λ (o : Answer). IfOk c.answer_of_run.result (λ u. u ≡ o)) (told_answer c.args.self.now c.rows-rows.result.now (c.rows-rows.ensures.value ∙ ap (λ (z : TraceParts). z.rows) c.sliced.ensures) c.args.piece c.row_at-start.result c.row_at-start.ensures g is_piece c.plan.result.now (c.plan.ensures ∙ ap (λ (z : TraceParts). z.plan) c.presence.ensures)) c.answer_of_run.ensures
