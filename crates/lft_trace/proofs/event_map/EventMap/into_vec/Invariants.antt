use Rattle.std.proofs.Common.{◌≡◌, ◌++◌, map}
use Rattle.lft_ir.specs.Steps.Inputs.{InOrder}
use Rattle.lft_trace.specs.inner.Keys.{event_at}
use Rattle.lft_trace.proofs.event_map.EventMap.into_vec.Given as goal

abbrev pub invariant-loop-time : goal.invariant-loop-time
invariant-loop-time l = (l.events.items ++ map event_at l.time-iterator ≡ l.fn.self) × InOrder l.fn.self
