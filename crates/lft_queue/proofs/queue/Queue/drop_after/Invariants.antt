use Rattle.std.proofs.Common.{◌≡◌, ◌≤◌, length, map, not}
use Rattle.std.specs.List.{filter}
use Rattle.lft_queue.specs.{Pending.is_after, inner.Keys.pending_at}
use Rattle.lft_queue.proofs.queue.Queue.drop_after.Given as goal

-- what is to stay is what was to stay
abbrev pub invariant-later : goal.invariant-later
invariant-later l = (filter (λ e. not (is_after l.tag e)) (map pending_at l.self-inside.values.entries) ≡ filter (λ e. not (is_after l.tag e)) l.fn.self) × (length l.self-inside.values.entries ≤ l.before)

abbrev pub decreases-later : goal.decreases-later
decreases-later l = length l.self-inside.values.entries
