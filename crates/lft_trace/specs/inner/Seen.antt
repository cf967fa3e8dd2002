-- What the clauses of single steps see: the fields of a record by their names, and its numbers.
use Rattle.std.specs.Prelude.{◌≡◌, ℕ, List, Some, true, false}
use Rattle.lft_trace.specs.{Numbers.{number, number_or_zero, value}, Traces.{TraceFields, IsThing, IsUnknown, has_name, has_delay, has_numbers, is_filled}}
use Rattle.lft_trace.specs.declared.{fault.TraceFault.TraceFault, fields.TraceFields.TraceFields as FieldsHeld}
use Rattle.lft_trace.specs.declared.{kind.RowKind.{RowKind, TheVariants.{Start, Read, Write, Schedule, Stop, End}}, trace_table.RowNumbers.RowNumbers}
use Rattle.lft_ir.specs.{Parts.Parts, declared.{parts.{Name.Name, Value.Value}, steps.row.Step.Step}}
use Rattle.lft_trace.specs.declared.fault.TraceFault.TheVariants as fault
use Rattle.lft_ir.specs.declared.steps.row.Step.TheVariants as step

abbrev pub trace_fields : FieldsHeld → TraceFields
trace_fields c = record { event = c.event.now; worker = c.worker.now; time = c.time.now; microstep = c.microstep.now; reaction = c.reaction.now; name = c.name.now; value = c.value.now; delay = c.delay.now }

-- the numbers of a record with this event
pub record NumbersOf (kind : RowKind) (c : TraceFields) (n : RowNumbers) : Type 0 where
  pub worker : number 4294967295 c.worker ≡ Some n.worker
  pub time : number 1000000000000000000 c.time ≡ Some n.tag.time
  pub microstep : number 1000000000 c.microstep ≡ Some n.tag.micro
  pub value : has_name kind ≡ true → value c.value ≡ Some n.value
  pub delay : has_delay kind ≡ true → number_or_zero 1000000000000000000 c.delay ≡ Some n.delay

-- the step of an event with this name, value and delay, where it has them
abbrev pub StepOf : Parts → RowKind → List ℕ → Value → ℕ → Step → Type 0
StepOf program Start name v d s = s ≡ step.Start
StepOf program Read name v d s = (n : Name) × IsThing program name n × (s ≡ step.Read n v)
StepOf program Write name v d s = (n : Name) × IsThing program name n × (s ≡ step.Write n v)
StepOf program Schedule name v d s = (n : Name) × IsThing program name n × (s ≡ step.Schedule n v d)
StepOf program Stop name v d s = s ≡ step.Stop
StepOf program End name v d s = s ≡ step.End

-- the first fault of a record of this event
abbrev pub FieldFault : Parts → RowKind → ℕ → TraceFields → TraceFault → Type 0
FieldFault program kind line c (fault.BadNumber n) = (n ≡ line) × (has_numbers kind c ≡ false)
FieldFault program kind line c (fault.UnknownName n) = (n ≡ line) × (has_numbers kind c ≡ true) × IsUnknown program kind c
FieldFault program kind line c (fault.FieldInPlace n) = (n ≡ line) × (has_numbers kind c ≡ true) × (IsUnknown program kind c → ⊥) × (is_filled kind c ≡ true)
FieldFault program kind line c e = ⊥
