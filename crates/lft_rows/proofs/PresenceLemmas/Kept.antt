-- What is kept of the events of a trace is right for its plan and rows.
use Rattle.std.proofs.Common.{◌≡◌, ◌≤◌, List, Option, sym, subst, arith}
use Rattle.lft_tag.specs.{declared.Tag.Tag, Tags.{UpTo, IsRecorded}}
use Rattle.lft_ir.specs.{declared.steps.row.Row.Row, Steps.Fits.RowsFit}
use Rattle.lft_model.{specs.{Plans.{PlanParts, IsSoundPlan}, Presence.stop}, proofs.Stops.stop_external}
use Rattle.lft_rows.specs.{declared.presence.causes.EventCause.EventCause, inner.Presence.{Causes.AreCauses, Kept.IsKept}, Presence.Clashes.IsClash}

-- the stop is no later than the external one, which is recorded
stop_limit : (plan : PlanParts) (t : List Row) → IsRecorded plan.externals.stop → (stop plan t).time ≤ 1000000000000000000
stop_limit plan t r = below (stop plan t) plan.externals.stop (stop_external plan t) r.0
  where
    below : (g h : Tag) → UpTo g h → h.time ≤ 1000000000000000000 → g.time ≤ 1000000000000000000
    below g h u l = grind arith

pub kept : (plan : PlanParts) (t : List Row) (last : Tag) (causes : List EventCause) (clash : Option Tag) → IsSoundPlan plan → RowsFit plan.program t → last ≡ stop plan t → AreCauses plan t causes → IsClash (record { plan = plan; rows = t }) clash → IsKept (record { plan = plan; rows = t }) last causes clash
kept plan t last causes clash sound fit is caused clash_is = record { fits = record { sound = sound; fit = fit }; stop_is = is; limit = subst (λ (z : Tag). z.time ≤ 1000000000000000000) (sym is) (stop_limit plan t sound.fit.stop); caused = caused; clash_is = clash_is }
