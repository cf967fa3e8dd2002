use Rattle.lft_rows.{specs.inner.Presence.Needed.AreAdded, proofs.PresenceLemmas.Needing.IsLast}
use Rattle.lft_rows.proofs.presence.needed.add_timers.Given as goal

abbrev pub invariant-loop-place : goal.invariant-loop-place
invariant-loop-place l = record { added : AreAdded l.beats l.place l.initial.needed.items l.needed.items; last : IsLast l.beats l.needed.items l.last }
