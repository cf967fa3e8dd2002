use Rattle.std.proofs.Common.{◌≡◌, ◌++◌, List, take}
use Rattle.lft_tag.specs.{declared.Tag.Tag, Tags.UpTo}
use Rattle.lft_ir.specs.declared.{parts.Name.Name, steps.externals.Event.Event}
use Rattle.lft_queue.specs.inner.Coming.{Coming.{to_come, scheduled_by, IsClear, IsNoLater}, Lanes.held}
use Rattle.lft_queue.proofs.coming.scheduling.schedule_all.Given as goal

abbrev pub invariant-loop-place : goal.invariant-loop-place
invariant-loop-place l = record { next : l.coming.next ≡ l.fn.coming.next; no_later : IsNoLater l.fn.coming.clash l.coming.clash; put : (events : List Event) (h : Tag) (n : Name) → UpTo h l.last → IsClear l.coming.clash h → to_come events l.coming h n ≡ to_come events l.fn.coming h n ++ held (scheduled_by l.plan (take l.place l.rows) n) h }
