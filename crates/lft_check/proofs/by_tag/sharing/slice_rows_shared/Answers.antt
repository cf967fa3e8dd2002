use Rattle.std.proofs.Common.{None, List, sym, subst}
use Rattle.lft_ir.specs.{declared.steps.row.Row.Row, Steps.Fits.RowsFit}
use Rattle.lft_rows.specs.inner.Firsts.{FirstRow}
use Rattle.lft_check.proofs.ByTagLemmas.Indexed.{cuttable}
use Rattle.lft_check.proofs.by_tag.sharing.slice_rows_shared.Goals as goal

pub index_shared-requires-clause-rules : goal.index_shared-requires-clause-rules
index_shared-requires-clause-rules g c κs within =
    let plan = c.args.plan.now in
    let rows = c.as_slice-rows.result.now in
    cuttable plan rows c.keeps.ensures.sound (subst (λ (t : List Row). RowsFit plan.program t) (sym c.as_slice-rows.ensures) c.requires) (subst (λ s. FirstRow s plan rows None) c.trace_stop_shared-stop.ensures (subst (λ o. FirstRow c.trace_stop_shared-stop.result plan rows o) c.in-Ok-None.field-0-is c.in-Ok-None.ensures))
