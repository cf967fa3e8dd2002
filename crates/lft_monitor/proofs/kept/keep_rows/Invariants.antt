use Rattle.std.proofs.Common.{List, IsTrue, take}
use Rattle.lft_tag.specs.declared.Tag.{Tag}
use Rattle.lft_ir.specs.declared.steps.row.Row.{Row}
use Rattle.lft_stream.specs.inner.Owed.{MeetNowhere}
use Rattle.lft_monitor.specs.inner.Kept.{IsKept}
use Rattle.lft_monitor.proofs.kept.keep_rows.Given as goal

abbrev pub invariant-loop-place : goal.invariant-loop-place
invariant-loop-place l = (last : Tag) (t : List Row) → (IsTrue l.fn.is_apart → MeetNowhere last l.plan t l.fn.low) → IsKept last l.plan t (take l.place l.rows) l.kept.items l.fn.low
