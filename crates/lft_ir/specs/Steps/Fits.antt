-- Rows and external inputs that are of a program and within the limits of a table.
use Rattle.std.specs.Prelude.{◌≡◌, ℕ, ◌<◌, ◌≤◌, List, length, slice_get, Some}
use Rattle.lft_tag.specs.Tags.{IsRecorded}
use Rattle.lft_ir.specs.{Parts.Parts, Sound.IsNameOf}
use Rattle.lft_ir.specs.declared.steps.{row.{Row.Row, Step.{Step, TheVariants.{Start, Read, Write, Schedule, Stop, End}}}, externals.Event.Event}
use Rattle.lft_ir.specs.Steps.Inputs.{ExternalInputs}

-- what the step names is of the program, and its delay is at most 10^18
abbrev pub StepFits : Parts → Step → Type 0
StepFits program Start = Unit {0}
StepFits program (Read n v) = IsNameOf program n
StepFits program (Write n v) = IsNameOf program n
StepFits program (Schedule n v delay) = IsNameOf program n × (delay ≤ 1000000000000000000)
StepFits program Stop = Unit {0}
StepFits program End = Unit {0}

-- a row whose tag is recorded and whose reaction and step are of the program
pub record RowFits (program : Parts) (row : Row) : Type 0 where
  pub recorded : IsRecorded row.tag
  pub reaction : row.reaction < length program.reactions
  pub step : StepFits program row.step

-- rows that are all of the program and recorded, and no more than a table may hold
pub record RowsFit (program : Parts) (t : List Row) : Type 0 where
  pub few : length t ≤ 4000000
  pub each : (i : ℕ) (row : Row) → slice_get t i ≡ Some row → RowFits program row

-- an event that is of the program and recorded
pub record EventFits (program : Parts) (event : Event) : Type 0 where
  pub recorded : IsRecorded event.tag
  pub action : event.action < length program.actions

-- external inputs whose events are all of the program and recorded, and no more than a table may hold
pub record ExternalsFit (program : Parts) (externals : ExternalInputs) : Type 0 where
  pub stop : IsRecorded externals.stop
  pub few : length externals.events ≤ 4000000
  pub each : (i : ℕ) (event : Event) → slice_get externals.events i ≡ Some event → EventFits program event
