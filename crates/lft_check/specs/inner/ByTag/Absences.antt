-- Up to when inputs are absent. This serves the look-up of what runs read alone.
use Rattle.std.specs.Prelude.{◌≡◌, ℕ, ◌/◌, ◌<◌, ◌≤◌, List, Option, Some, None, length, slice_get}
use Rattle.lft_tag.specs.{declared.Tag.Tag, Tags.{Before, UpTo}}
use Rattle.lft_ir.specs.declared.{parts.{Name.Name, Reaction.Reaction}, steps.row.Row.Row}
use Rattle.lft_model.specs.{Plans.PlanParts, Presence.IsPresent}
use Rattle.lft_rows.specs.{inner.Marks.HasSeat, Presence.Traces.TraceParts}
use Rattle.lft_check.specs.declared.by_tag.absences.Absences.{Absences}

-- h is before the other tag, if there is one
abbrev pub IsEarlier : Tag → Option Tag → Type 0
IsEarlier h None = Unit {0}
IsEarlier h (Some u) = Before h u

-- from g on the name is absent, up to the other tag where there is one
abbrev pub IsAbsentUntil : PlanParts → List Row → Name → Tag → Option Tag → Type 0
IsAbsentUntil plan t n g until = (h : Tag) → UpTo g h → IsEarlier h until → ¬ IsPresent plan t h n

-- what is known of the blocks of 64 inputs of each reaction holds from g on
pub record AreAbsences (cut : TraceParts) (g : Tag) (absences : List Absences) : Type 0 where
  pub as_long : length absences ≡ length cut.plan.program.reactions
  pub each : (r b k : ℕ) (a : Absences) (until : Option Tag) (x : Reaction) (n : Name) → slice_get absences r ≡ Some a → slice_get a.until.items b ≡ Some until → slice_get cut.plan.program.reactions r ≡ Some x → HasSeat x n k → k / 64 ≡ b → IsAbsentUntil cut.plan cut.rows n g until

-- nothing is known: each block is absent before the first tag
abbrev pub IsUnknown : Absences → Type 0
IsUnknown a = (b : ℕ) (until : Option Tag) → slice_get a.until.items b ≡ Some until → until ≡ Some (record { time = 0; micro = 0 })

-- the names from one place on before another are absent from g on, up to a tag where there is one
abbrev pub AreAbsentUntil : TraceParts → List Name → ℕ → ℕ → Tag → Option Tag → Type 0
AreAbsentUntil cut names from to g until = (k : ℕ) (n : Name) → from ≤ k → k < to → slice_get names k ≡ Some n → IsAbsentUntil cut.plan cut.rows n g until
