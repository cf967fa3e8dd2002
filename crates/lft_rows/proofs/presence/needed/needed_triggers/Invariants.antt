use Rattle.lft_rows.proofs.PresenceLemmas.Needing.{AreParted}
use Rattle.lft_rows.proofs.presence.needed.needed_triggers.Given as goal

abbrev pub invariant-loop-place : goal.invariant-loop-place
invariant-loop-place l = AreParted l.program l.triggers l.place l.beats.items l.needed.items
