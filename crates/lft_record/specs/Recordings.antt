-- What a recording writes, and why it ends before its plan.
use Rattle.std.specs.Prelude.{◌≡◌, ◌≢◌, ◌≤◌, ◌⊎◌, ℕ, ℤ, List, Option, None, []}
use Rattle.std.specs.Io.KnownBytes.{Appends, Keeps}
use Rattle.lft_tag.specs.declared.Tag.{Tag}
use Rattle.lft_ir.specs.{Parts.Parts, declared.{parts.Value.Value, steps.row.Row.Row}}
use Rattle.lft_tables.specs.Records.{records_of}
use Rattle.lft_trace.specs.{Traces.Table, Written.table_text}
use Rattle.lft_model.specs.{Breaches.Legal, Plans.PlanParts, Workers.IsWorkers}
use Rattle.lft_pool.specs.{declared.{bodies.done.Done.Done, stop.Stop.Stop}, Books.{IsRecording, LacksBody}, Endings.WhyStopped}
use Rattle.lft_scheduler.specs.Starts.{SomethingLeft, started_count}
use Rattle.lft_load.specs.{Written.AppendsFront, declared.fault.Fault.Fault}
use Rattle.lft_record.specs.Faults.{stop_number}
use Rattle.lft_pool.specs.declared.stop.Stop.TheVariants as stop
use Rattle.lft_load.specs.declared.fault.Part.TheVariants as part

-- a relation over the answers of bodies
abbrev pub AnswerLaw : Type 1
AnswerLaw = ℕ → Tag → ℤ → List (Option Value) → Done → Type 0

-- the trace table of the rows was written, and it is read as these rows
pub record Writes (program : Parts) (rows : List Row) (old new : Option (List ℕ)) : Type 0 where
  pub text : List ℕ
  pub plain : text ≡ table_text program rows
  pub table : Table program (records_of text) rows
  pub written : Appends old new text

-- the plan was recorded to its stop as legal rows by a lawful number of workers, in no more runs than are allowed, and the ended runs follow the law
pub record IsWholeRecording (law : AnswerLaw) (plan : PlanParts) (workers max_runs : ℕ) (rows : List Row) : Type 0 where
  pub states : List (ℤ × ℤ)
  pub workers_are : IsWorkers workers
  pub legal : Legal plan rows
  pub recording : IsRecording law plan rows states
  pub few : started_count rows ≤ max_runs

-- the plan was recorded to its stop, and the table of the rows was written
pub record IsPlanRecorded (law : AnswerLaw) (plan : PlanParts) (workers max_runs : ℕ) (old new : Option (List ℕ)) : Type 0 where
  pub rows : List Row
  pub whole : IsWholeRecording law plan workers max_runs rows
  pub written : Writes plan.program rows old new

-- the recording stopped at these rows, for this reason, with so many bodies of each reaction left; the rows are of the plan unless the reason is that it isn't the one given, and there are none where the number of workers isn't lawful, which is told exactly then; a reaction that has no body left may start, and other reasons hold as well
pub record StopsRecording (law : AnswerLaw) (plan : PlanParts) (workers max_runs : ℕ) (reason : Stop) (end : PlanParts) (rows : List Row) : Type 0 where
  pub states : List (ℤ × ℤ)
  pub left : List ℕ
  pub recording : IsRecording law end rows states
  pub same : reason ≢ stop.PlanChanged → end ≡ plan
  pub bad : (IsWorkers workers → ⊥) → reason ≡ stop.BadWorkers
  pub unbegun : reason ≡ stop.BadWorkers → (IsWorkers workers → ⊥) × (rows ≡ [])
  pub no_body : (r : ℕ) → reason ≡ stop.NoBody r → LacksBody end rows left r
  pub changed : reason ≡ stop.PlanChanged → (end ≢ plan) ⊎ SomethingLeft end rows
  pub few : reason ≢ stop.PlanChanged → reason ≢ stop.TooManyRuns → started_count rows ≤ max_runs
  pub why : WhyStopped law (record { plan = end; rows = rows; states = states; left = left; max_runs = max_runs; reason = None }) reason

-- the plan wasn't recorded to its stop, or its table wasn't written: the recording stopped and the table of its rows so far was written, or a growth was refused and nothing was, or the writer failed, and took a front of the table of the whole recording or of the rows so far
pub data RecordRefusal (law : AnswerLaw) (plan : PlanParts) (workers max_runs : ℕ) (old new : Option (List ℕ)) (f : Fault) : Type 0 where
  by_stop : (reason : Stop) (end : PlanParts) (rows : List Row) → f.part ≡ part.Pool → f.number ≡ stop_number reason → StopsRecording law plan workers max_runs reason end rows → Writes end.program rows old new → RecordRefusal law plan workers max_runs old new f
  by_growth : f.part ≡ part.Memory → f.number ≡ 1 → Keeps old new → RecordRefusal law plan workers max_runs old new f
  by_writer : (rows : List Row) → f.part ≡ part.Write → f.number ≡ 1 → IsWholeRecording law plan workers max_runs rows → AppendsFront old new (table_text plan.program rows) → RecordRefusal law plan workers max_runs old new f
  by_stop_and_writer : (reason : Stop) (end : PlanParts) (rows : List Row) → f.part ≡ part.Write → f.number ≡ 1 → StopsRecording law plan workers max_runs reason end rows → AppendsFront old new (table_text end.program rows) → RecordRefusal law plan workers max_runs old new f
