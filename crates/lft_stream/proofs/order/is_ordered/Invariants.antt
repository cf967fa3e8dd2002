use Rattle.std.proofs.Common.{◌≡◌, ◌≤◌, ◌+◌, ◌/◌, length}
use Rattle.lft_stream.proofs.Ranking.{OrderedFrom, HasEnded}
use Rattle.lft_stream.proofs.order.is_ordered.Given as goal

abbrev pub invariant-loop-place : goal.invariant-loop-place
invariant-loop-place l = record { within : l.place ≤ length l.rows; room : length l.ended ≡ length l.plan.program.reactions / 64 + 1; ended : HasEnded l.rows l.place l.ended; ordered : OrderedFrom l.plan.program l.rows l.place }

abbrev pub decreases-loop-place : goal.decreases-loop-place
decreases-loop-place l = l.place
