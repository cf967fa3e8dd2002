use Rattle.std.proofs.Common.{◌++◌, ◌-◌, ◌≤◌, List, take, length}
use Rattle.std.specs.Prelude.{IfSome}
use Rattle.lft_graph.specs.inner.Sets.{AreAncestors}
use Rattle.lft_ir.specs.declared.steps.row.Row.{Row}
use Rattle.lft_rows.specs.inner.Marks.{AreBefore}
use Rattle.lft_stream.specs.inner.Kept.{IsStreamOf, RisesAt}
use Rattle.lft_stream.proofs.stream.Stream.add_kept.Given as goal

abbrev pub invariant-loop-first : goal.invariant-loop-first
invariant-loop-first l = record { within : l.first ≤ length l.rows; rises : RisesAt l.rows l.first; marks : AreBefore l.plan.program l.first l.marks; stands : (done : List Row) → IsStreamOf l.plan done l.fn.self → IsStreamOf l.plan (done ++ take l.first l.rows) l.self; order : IfSome l.order (AreAncestors l.plan.program) }

abbrev pub decreases-loop-first : goal.decreases-loop-first
decreases-loop-first l = length l.rows - l.first
