use Rattle.std.proofs.Common.{◌≡◌, length}
use Rattle.lft_monitor.specs.inner.OpenRuns.{EndBefore}
use Rattle.lft_monitor.proofs.open.last_ends.Given as goal

abbrev pub invariant-loop-place : goal.invariant-loop-place
invariant-loop-place l = (length l.last.items ≡ l.reactions) × EndBefore l.rows l.place l.last.items
