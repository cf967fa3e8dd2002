use Rattle.std.proofs.Common.{◌≡◌}
use Rattle.lft_queue.specs.inner.Coming.Channels.{AreCarriedClear}
use Rattle.lft_queue.proofs.coming.channels.carry_all.Given as goal

abbrev pub invariant-loop-place : goal.invariant-loop-place
invariant-loop-place l = record { next : l.coming.next ≡ l.fn.coming.next; carried : AreCarriedClear l.program l.rows l.fn.tag l.last l.place l.fn.coming l.coming l.writes }
