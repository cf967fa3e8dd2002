use Rattle.std.proofs.Common.{map}
use Rattle.lft_trace.{specs.inner.Keys.event_at, proofs.EventLists.put_in}
use Rattle.lft_trace.proofs.event_map.map_of.Goals as goal

pub loop-place-preserved : goal.loop-place-preserved
loop-place-preserved c =
    put_in c.args.events.now c.loop-place.place _ (map event_at c.loop-place.values.entries) (map event_at c.put.new.values.entries) c.in_ok-put.field-0 c.requires c.loop-place-test.true c.loop-place.invariant c.in_ok-put.ensures.there c.in_ok-put.ensures.added
