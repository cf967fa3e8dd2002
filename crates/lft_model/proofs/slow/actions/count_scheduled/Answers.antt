use Rattle.std.proofs.Common.{sym, ◌∙◌}
use Rattle.lft_model.proofs.{ActionEvents.{count_one, count_none}, slow.actions.count_scheduled.Goals.{then-is_some, else-is_some}}
use Rattle.lft_model.proofs.slow.actions.count_scheduled.Goals as goal

pub loop-place-preserved : goal.loop-place-preserved
loop-place-preserved c =
    elim c.if-is_some.branch [
      | then-is_some w ↦ count_one _ _ _ _ _ _ _ c.row_at.ensures c.value_scheduled.ensures (sym c.is_some.ensures ∙ w.if-is_some.true) w.count-is c.loop-place.invariant
      | else-is_some w ↦ count_none _ _ _ _ _ _ _ c.row_at.ensures c.value_scheduled.ensures (sym c.is_some.ensures ∙ w.if-is_some.false) w.count-is c.loop-place.invariant
    ]
