use Rattle.lft_monitor.proofs.gone.Going.go_by_rows.Goals as goal

pub lost_before-requires-clause-stands : goal.lost_before-requires-clause-stands
lost_before-requires-clause-stands c = (c.args.plan.now, c.loop-place.invariant.stands.0, c.loop-place.invariant.stands.1)
