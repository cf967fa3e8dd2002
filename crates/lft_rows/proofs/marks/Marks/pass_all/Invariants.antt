use Rattle.lft_rows.specs.inner.Marks.{AreMarks}
use Rattle.lft_rows.proofs.marks.Marks.pass_all.Given as goal

abbrev pub invariant-loop-place : goal.invariant-loop-place
invariant-loop-place l = AreMarks l.program l.rows l.fn.first l.place l.self
