use Rattle.std.proofs.Common.{◌≡◌, take, length}
use Rattle.lft_queue.specs.inner.Coming.Writes.{AreWrites}
use Rattle.lft_queue.proofs.coming.writes.Writes.pass_all.Given as goal

abbrev pub invariant-loop-place : goal.invariant-loop-place
invariant-loop-place l = record { ports : length l.self ≡ length l.program.ports; passed : AreWrites l.program (take l.place l.more) l.fn.tag l.self }
