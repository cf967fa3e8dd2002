use Rattle.std.proofs.Common.{◌≡◌, length, map}
use Rattle.std.specs.List.{filter}
use Rattle.lft_queue.specs.{Pending.is_after, inner.Keys.pending_at}
use Rattle.lft_queue.proofs.queue.Queue.drop_until.Given as goal

-- what is to stay is what was to stay
abbrev pub invariant-past : goal.invariant-past
invariant-past l = filter (λ e. is_after l.tag e) (map pending_at l.self-inside.values.entries) ≡ filter (λ e. is_after l.tag e) l.fn.self

abbrev pub decreases-past : goal.decreases-past
decreases-past l = length l.self-inside.values.entries
