use Rattle.std.proofs.Common.{◌≡◌, ◌≤◌, length}
use Rattle.lft_races.specs.inner.Races.{AreUnfinished}
use Rattle.lft_races.proofs.unfinished.unfinished_at.Given as goal

abbrev pub invariant-loop-end : goal.invariant-loop-end
invariant-loop-end l = (length l.marks.items ≡ l.reactions) × AreUnfinished l.rows l.tag l.end l.marks.items × (l.end ≤ l.place)
