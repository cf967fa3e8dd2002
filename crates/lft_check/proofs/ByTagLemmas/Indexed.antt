-- What sliced rows keep is right for their plan and rows.
use Rattle.std.proofs.Common.{List, None}
use Rattle.lft_ir.specs.{declared.steps.row.Row.Row, Steps.Fits.RowsFit}
use Rattle.lft_model.{specs.{Plans.{PlanParts, IsSoundPlan}, Presence.stop}, proofs.Legality.{four, rising}}
use Rattle.lft_rows.specs.inner.{Firsts.FirstRow, Slices.Rises}
use Rattle.lft_check.specs.inner.ByTag.Slices.{IsCuttable}

pub rises_of : (plan : PlanParts) (t : List Row) → FirstRow (stop plan t) plan t None → Rises t
rises_of plan t kept i j x y l p q = rising plan t (four plan t kept) i j x y l p q

pub cuttable : (plan : PlanParts) (t : List Row) → IsSoundPlan plan → RowsFit plan.program t → FirstRow (stop plan t) plan t None → IsCuttable (record { plan = plan; rows = t })
cuttable plan t sound fit kept = record { sound = sound; fit = fit; kept = kept }
