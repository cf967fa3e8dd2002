use Rattle.std.proofs.Common.{◌≡◌, ◌++◌, map, take}
use Rattle.lft_queue.specs.Pending.{value_of}
use Rattle.lft_scheduler.proofs.events.reading.push_values.Given as goal

abbrev pub invariant-loop-place : goal.invariant-loop-place
invariant-loop-place l = l.values.items ≡ l.initial.values.items ++ map (λ n. value_of l.tag n l.queue) (take l.place l.names)
