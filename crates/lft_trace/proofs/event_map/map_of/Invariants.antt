use Rattle.std.proofs.Common.{map, take}
use Rattle.std.specs.List.Sorted.{IsPermutation}
use Rattle.lft_trace.specs.inner.Keys.{event_at}
use Rattle.lft_trace.proofs.event_map.map_of.Given as goal

abbrev pub invariant-loop-place : goal.invariant-loop-place
invariant-loop-place l = IsPermutation (take l.place l.events) (map event_at l.values.entries)
