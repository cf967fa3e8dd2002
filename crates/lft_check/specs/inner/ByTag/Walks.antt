-- How far a walk over the tags of sliced rows has come.
use Rattle.std.specs.Prelude.{◌≡◌, ◌<◌, ℕ, List, Some, slice_get}
use Rattle.lft_tag.specs.{declared.Tag.Tag, Tags.Before}
use Rattle.lft_ir.specs.declared.steps.row.Row.{Row}
use Rattle.lft_rows.specs.{declared.slices.Slice.Slice, inner.Marks.{AreBefore, AreMarks}, Presence.Traces.TraceParts}
use Rattle.lft_check.specs.{declared.by_tag.walk.Walk.Walk, inner.ByTag.Absences.AreAbsences}

-- the tag is past all rows before place i
abbrev pub IsTagPast : List Row → ℕ → Tag → Type 0
IsTagPast t i h = (j : ℕ) (row : Row) → j < i → slice_get t j ≡ Some row → Before row.tag h

-- the marks know of no row from place i on; the absences hold from each tag behind the rows before i
pub record IsWalkBefore (cut : TraceParts) (i : ℕ) (walk : Walk) : Type 0 where
  pub marks : AreBefore cut.plan.program i walk.marks
  pub absences : (h : Tag) → IsTagPast cut.rows i h → AreAbsences cut h walk.absences.items

-- the marks are those of the rows of the slice; the absences hold from its tag on
pub record HasWalked (cut : TraceParts) (s : Slice) (walk : Walk) : Type 0 where
  pub marks : AreMarks cut.plan.program cut.rows s.first s.end walk.marks
  pub absences : AreAbsences cut s.tag walk.absences.items
