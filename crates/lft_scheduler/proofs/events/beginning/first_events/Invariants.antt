use Rattle.std.proofs.Common.{◌≡◌, ◌↔◌, Some}
use Rattle.lft_tag.specs.{declared.Tag.Tag, Tags.UpTo}
use Rattle.lft_ir.specs.declared.parts.{Value.Value, Name.Name}
use Rattle.lft_queue.specs.Pending.{value_of}
use Rattle.lft_scheduler.proofs.Given.{IsGiven}
use Rattle.lft_scheduler.proofs.events.beginning.first_events.Given as goal

-- the queue has the first events up to the stop
abbrev pub invariant-loop-at : goal.invariant-loop-at
invariant-loop-at l = (h : Tag) (n : Name) (v : Value) → UpTo h l.stop → (value_of h n l.queue ≡ Some v) ↔ IsGiven l.events l.at h n v
