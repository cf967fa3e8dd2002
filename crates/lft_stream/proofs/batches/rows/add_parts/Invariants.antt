use Rattle.std.proofs.Common.{◌-◌, ◌≤◌, take, length}
use Rattle.lft_stream.specs.inner.Kept.{IsAcceptorOf}
use Rattle.lft_stream.proofs.batches.rows.add_parts.Given as goal

abbrev pub invariant-loop-first : goal.invariant-loop-first
invariant-loop-first l = record { within : l.first ≤ length l.rows; stands : IsAcceptorOf l.plan (take l.first l.rows) l.acceptor }

abbrev pub decreases-loop-first : goal.decreases-loop-first
decreases-loop-first l = length l.rows - l.first
