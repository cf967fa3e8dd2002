-- The run that a piece tells, by a plan and rows that are those of the cut.
use Rattle.std.proofs.Common.{◌≡◌, ◌<◌, List, length, Some, slice_get, sym, ap, ◌∙◌, subst}
use Rattle.lft_tag.specs.declared.Tag.{Tag}
use Rattle.lft_ir.specs.{declared.steps.row.{Row.Row, Step.TheVariants.Start}, Steps.Fits.RowsFit}
use Rattle.lft_model.{specs.{Plans.PlanParts, Runs.{start_row, reads_at, answer_at}}, proofs.Places.slice_get_within}
use Rattle.lft_rows.specs.{Answers.Answers.KeepsRows, Presence.Traces.TraceParts}
use Rattle.lft_slices.specs.{declared.pieces.Piece.Piece, Pieces.IsRunPiece}
use Rattle.lft_check.specs.inner.ByTag.Slices.{IsCuttable}

module _ (cut : TraceParts) (rows : List Row) (are_rows : rows ≡ cut.rows) where
  pub starts_within : (g : Tag) (x : Piece) → IsRunPiece cut.rows g x → x.start < length rows
  starts_within g x is_piece = subst (λ (ts : List Row). x.start < length ts) (sym are_rows) (slice_get_within cut.rows x.start (start_row is_piece.worker g x.reaction) is_piece.starts)

  module _ (x : Piece) (start : Row) (is_start : slice_get rows x.start ≡ Some start) (g : Tag) (is_piece : IsRunPiece cut.rows g x) where
    start_is : start ≡ start_row is_piece.worker g x.reaction
    start_is = let z : Some start ≡ Some (start_row is_piece.worker g x.reaction) = sym is_start ∙ ap (λ (ts : List Row). slice_get ts x.start) are_rows ∙ is_piece.starts in cc

    pub starts : start.step ≡ Start
    starts = ap (λ (y : Row). y.step) start_is

    module _ (plan : PlanParts) (is_plan : plan ≡ cut.plan) where
      pub told_reads : reads_at plan rows start.tag start.reaction ≡ reads_at cut.plan cut.rows g x.reaction
      told_reads = ap (λ (y : Row). reads_at plan rows y.tag y.reaction) start_is ∙ ap (λ (p : PlanParts). reads_at p rows g x.reaction) is_plan ∙ ap (λ (ts : List Row). reads_at cut.plan ts g x.reaction) are_rows

      pub told_answer : answer_at plan rows start.tag start.reaction ≡ answer_at cut.plan cut.rows g x.reaction
      told_answer = ap (λ (y : Row). answer_at plan rows y.tag y.reaction) start_is ∙ ap (λ (p : PlanParts). answer_at p rows g x.reaction) is_plan ∙ ap (λ (ts : List Row). answer_at cut.plan ts g x.reaction) are_rows

  module _ (rules : IsCuttable cut) (plan : PlanParts) (is_plan : plan ≡ cut.plan) where
    pub fits : RowsFit plan.program rows
    fits = subst (λ (p : PlanParts). RowsFit p.program rows) (sym is_plan) (subst (λ (ts : List Row). RowsFit cut.plan.program ts) (sym are_rows) rules.fit)

    pub keeps : KeepsRows plan rows
    keeps = subst (λ (p : PlanParts). KeepsRows p rows) (sym is_plan) (subst (λ (ts : List Row). KeepsRows cut.plan ts) (sym are_rows) rules.kept)
