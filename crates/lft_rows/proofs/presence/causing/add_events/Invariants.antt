use Rattle.lft_rows.{specs.inner.Presence.Causes.HasJust, proofs.PresenceLemmas.Made.IsCauseTo}
use Rattle.lft_rows.proofs.presence.causing.add_events.Given as goal

abbrev pub invariant-loop-place : goal.invariant-loop-place
invariant-loop-place l = HasJust (IsCauseTo l.plan.program l.rows l.plan.externals.events l.place) l.causes.items
