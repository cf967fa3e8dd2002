use Rattle.std.proofs.Common.{◌≡◌, List, Option, ◌∙◌, ap, subst, IfOk}
use Rattle.lft_ir.specs.declared.parts.Value.{Value}
use Rattle.lft_rows.specs.Presence.Traces.{TraceParts}
use Rattle.lft_check.specs.inner.ByTag.Slices.{IsCuttable}
use Rattle.lft_slices.proofs.Told.{starts_within, starts, told_reads, fits, keeps}
use Rattle.lft_slices.proofs.cuts.Cut.reads.Goals as goal

pub row_at-start-requires : goal.row_at-start-requires
row_at-start-requires c = starts_within c.args.self.now c.rows-rows.result.now (c.rows-rows.ensures.value ∙ ap (λ (z : TraceParts). z.rows) c.sliced.ensures) c.requires.0 c.args.piece c.requires.1

pub reads_of_run-requires-clause-fit : goal.reads_of_run-requires-clause-fit
reads_of_run-requires-clause-fit c = fits c.args.self.now c.rows-rows.result.now (c.rows-rows.ensures.value ∙ ap (λ (z : TraceParts). z.rows) c.sliced.ensures) (subst (λ (z : TraceParts). IsCuttable z) c.sliced.ensures c.rows-rows.ensures.rules) c.plan.result.now (c.plan.ensures ∙ ap (λ (z : TraceParts). z.plan) c.presence.ensures)

pub reads_of_run-requires-clause-rules : goal.reads_of_run-requires-clause-rules
reads_of_run-requires-clause-rules c = keeps c.args.self.now c.rows-rows.result.now (c.rows-rows.ensures.value ∙ ap (λ (z : TraceParts). z.rows) c.sliced.ensures) (subst (λ (z : TraceParts). IsCuttable z) c.sliced.ensures c.rows-rows.ensures.rules) c.plan.result.now (c.plan.ensures ∙ ap (λ (z : TraceParts). z.plan) c.presence.ensures)

pub reads_of_run-requires-clause-starts : goal.reads_of_run-requires-clause-starts
reads_of_run-requires-clause-starts c = starts c.args.self.now c.rows-rows.result.now (c.rows-rows.ensures.value ∙ ap (λ (z : TraceParts). z.rows) c.sliced.ensures) c.args.piece c.row_at-start.result c.row_at-start.ensures c.requires.0 c.requires.1

pub returns : goal.returns
returns c g is_piece = subst (λ (o : List (Option Value)). IfOk c.reads_of_run.result (λ u. u ≡ o)) (told_reads c.args.self.now c.rows-rows.result.now (c.rows-rows.ensures.value ∙ ap (λ (z : TraceParts). z.rows) c.sliced.ensures) c.args.piece c.row_at-start.result c.row_at-start.ensures g is_piece c.plan.result.now (c.plan.ensures ∙ ap (λ (z : TraceParts). z.plan) c.presence.ensures)) c.reads_of_run.ensures
