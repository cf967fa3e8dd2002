use Rattle.std.proofs.Common.{◌∙◌, ap, subst, length, Some}
use Rattle.lft_ir.specs.declared.steps.row.Step.TheVariants.{Start}
use Rattle.lft_rows.{specs.inner.Passes.OpenPlace, proofs.Steps.row_eq}
use Rattle.lft_rows.proofs.pass.least_open.Goals as goal

pub returns-then-are_none : goal.returns-then-are_none
returns-then-are_none c = λ j row l e u. subst (λ o. OpenPlace c.args.rows.now c.args.end (length c.args.rows.now) row.worker o) (c.are_none.ensures c.if-are_none.true row.worker) (c.requires.held row.worker) j row.tag row.reaction l (record { starts = e ∙ ap Some (row_eq row Start u.0); not_ended = λ k a b. u.1 k a })
