use Rattle.std.proofs.Common.{◌≡◌, ◌++◌, true, List, length, take}
use Rattle.lft_ir.specs.declared.steps.row.Row.{Row}
use Rattle.lft_tag.specs.declared.Tag.{Tag}
use Rattle.lft_queue.specs.{Coming.AtTag.AreBefore, inner.Coming.{Coming.IsClear, Unread.{AreUnread, AreFree}}}
use Rattle.lft_queue.proofs.coming.unread.UnreadPorts.pass_all.Given as goal

abbrev pub invariant-loop-place : goal.invariant-loop-place
invariant-loop-place l = record { any : l.self.any ≡ true; soonest : l.self.soonest ≡ l.fn.self.soonest; written : length l.self.written ≡ length l.fn.self.written; passed : (t : List Row) → AreBefore t l.fn.tag → AreUnread l.program t l.fn.self → AreUnread l.program (t ++ take l.place l.rows) l.self × ((h : Tag) → IsClear l.clash h → AreFree l.program t (take l.place l.rows) l.fn.tag h) }
