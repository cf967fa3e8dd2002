use Rattle.std.proofs.Common.{◌≡◌, ◌++◌, List, take, filter_map}
use Rattle.lft_tag.specs.{declared.Tag.Tag, Tags.UpTo}
use Rattle.lft_ir.specs.declared.{parts.Name.Name, steps.externals.Event.Event}
use Rattle.lft_queue.specs.inner.Coming.{Channels.value_at_arrival, Coming.{to_come, IsClear, IsNoLater}}
use Rattle.lft_queue.proofs.coming.channels.carry.Given as goal

abbrev pub invariant-loop-place : goal.invariant-loop-place
invariant-loop-place l = record { next : l.coming.next ≡ l.fn.coming.next; no_later : IsNoLater l.fn.coming.clash l.coming.clash; put : (events : List Event) (h : Tag) (n : Name) → UpTo h l.last → IsClear l.coming.clash h → to_come events l.coming h n ≡ to_come events l.fn.coming h n ++ filter_map (value_at_arrival l.program l.origin l.tag l.value h n) (take l.place l.targets) }
