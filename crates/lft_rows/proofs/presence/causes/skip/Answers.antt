use Rattle.std.proofs.Common.{◌+◌, ◌<◌, length, subst, arith}
use Rattle.lft_model.proofs.Places.{slice_get_within}
use Rattle.lft_rows.specs.{declared.presence.causes.EventCause.EventCause, inner.Presence.Causes.Leads}
use Rattle.lft_rows.proofs.PresenceLemmas.{Lists.not_true, Positions.same_cause, Skips.{skip_one, skip_many}}
use Rattle.lft_rows.proofs.presence.causes.skip.Goals.{else-next-causes-via-then-next-causes+else-leads, else-next-causes-via-else-next-causes}
use Rattle.lft_rows.proofs.presence.causes.skip.Goals as goal

pub returns-then-leads : goal.returns-then-leads
returns-then-leads c = skip_many c.args.causes.now c.requires.ascending c.args.name (c.args.shift.time, c.args.shift.steps) c.args.tag c.args.place c.requires.here.0 c.requires.here.1 c.requires.here.2 c.position.result c.position.ensures

pub returns-else-next-causes : goal.returns-else-next-causes
returns-else-next-causes c =
    let l : c.args.place < length c.args.causes.now = slice_get_within c.args.causes.now c.args.place c.requires.here.0 c.requires.here.1 in
    skip_one c.args.causes.now c.requires.ascending c.args.name (c.args.shift.time, c.args.shift.steps) c.args.tag c.args.place c.requires.here.0 c.requires.here.1 c.requires.here.2 (omega arith) (λ x e m. elim c.else-next-causes.branch [
      | else-next-causes-via-then-next-causes+else-leads w ↦ not_true (w.if-leads.ensures.1 (subst (λ (z : EventCause). Leads c.args.name (c.args.shift.time, c.args.shift.steps) c.args.tag z) (same_cause c.args.causes.now (c.args.place + 1) (c.args.place + 1) x w.item_at.result (omega arith) e w.item_at.ensures) m))
      | else-next-causes-via-else-next-causes w ↦ let k : c.args.place + 1 < length c.args.causes.now = slice_get_within c.args.causes.now (c.args.place + 1) x e in absurd (omega arith)
    ])
