use Rattle.lft_rows.{specs.inner.Presence.Causes.HasJust, proofs.PresenceLemmas.Made.IsRowCauseTo}
use Rattle.lft_rows.proofs.presence.causing.of_rows.Given as goal

abbrev pub invariant-loop-place : goal.invariant-loop-place
invariant-loop-place l = HasJust (IsRowCauseTo l.program l.rows l.place) l.causes.items
