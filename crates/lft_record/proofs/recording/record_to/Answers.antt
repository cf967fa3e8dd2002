use Rattle.std.proofs.Common.{rules, ℕ, List, Option, Result, Ok, Err, OnOk, IfErr}
use Rattle.lft_ir.specs.declared.steps.row.Row.{Row}
use Rattle.lft_model.specs.Plans.{PlanParts}
use Rattle.lft_pool.specs.declared.stop.Stop.{Stop}
use Rattle.lft_load.specs.declared.fault.Fault.{Fault}
use Rattle.lft_record.specs.Recordings.{AnswerLaw, IsWholeRecording, IsPlanRecorded, RecordRefusal, StopsRecording, Writes}
use Rattle.lft_record.specs.Recordings.RecordRefusal.{by_stop, by_growth, by_writer, by_stop_and_writer}
use Rattle.lft_record.specs.inner.Recordings.{TableRefusal, TableRefusal.{by_growth as no_growth, by_writer as no_writer}}
use Rattle.lft_record.proofs.recording.record_to.Goals as goal

recorded : {A E : Type 0} (law : AnswerLaw) (plan : PlanParts) (workers max_runs : ℕ) (old new : Option (List ℕ)) (rows : List Row) (r : Result A E)
    → IsWholeRecording law plan workers max_runs rows → OnOk r (Writes plan.program rows old new) → OnOk r (IsPlanRecorded law plan workers max_runs old new)
recorded law plan workers max_runs old new rows (Ok x) whole h = record { rows = rows; whole = whole; written = h }
recorded law plan workers max_runs old new rows (Err e) whole h = tt

-- a table of a whole recording that wasn't written
unwritten : {A : Type 0} (law : AnswerLaw) (plan : PlanParts) (workers max_runs : ℕ) (old new : Option (List ℕ)) (rows : List Row) (r : Result A Fault)
    → IsWholeRecording law plan workers max_runs rows → IfErr r (TableRefusal plan.program rows old new) → IfErr r (RecordRefusal law plan workers max_runs old new)
unwritten law plan workers max_runs old new rows (Ok x) whole h = tt
unwritten law plan workers max_runs old new rows (Err f) whole h = go h
  where
    go : TableRefusal plan.program rows old new f → RecordRefusal law plan workers max_runs old new f
    go (no_growth p n k) = by_growth p n k
    go (no_writer p n k) = by_writer rows p n whole k

-- a table of rows so far that wasn't written
untold : (law : AnswerLaw) (plan : PlanParts) (workers max_runs : ℕ) (old new : Option (List ℕ)) (reason : Stop) (end : PlanParts) (rows : List Row) (f : Fault)
    → StopsRecording law plan workers max_runs reason end rows → TableRefusal end.program rows old new f → RecordRefusal law plan workers max_runs old new f
untold law plan workers max_runs old new reason end rows f stops (no_growth p n k) = by_growth p n k
untold law plan workers max_runs old new reason end rows f stops (no_writer p n k) = by_stop_and_writer reason end rows p n stops k

pub returns-in-Ok-clause-recorded : goal.returns-in-Ok-clause-recorded
returns-in-Ok-clause-recorded g c =
    let contents = g.W.Write.contents in
    let whole : IsWholeRecording g.L.Law.holds c.args.plan c.args.workers c.args.max_runs c.in-Ok.recorded.rows = record { states = c.in-Ok.recorded.states; workers_are = c.in-Ok.ensures.workers; legal = rw c.in-Ok.ensures.plan at c.in-Ok.ensures.legal; recording = rw c.in-Ok.ensures.plan at c.in-Ok.ensures.recording; few = c.in-Ok.ensures.few.0 } in
    recorded g.L.Law.holds c.args.plan c.args.workers c.args.max_runs (contents c.args.out.now) (contents c.write_rows.new.out) c.in-Ok.recorded.rows c.write_rows.result whole (rw c.in-Ok.ensures.plan at c.write_rows.ensures.written)

pub returns-in-Ok-clause-refused : goal.returns-in-Ok-clause-refused
returns-in-Ok-clause-refused g c =
    let contents = g.W.Write.contents in
    let whole : IsWholeRecording g.L.Law.holds c.args.plan c.args.workers c.args.max_runs c.in-Ok.recorded.rows = record { states = c.in-Ok.recorded.states; workers_are = c.in-Ok.ensures.workers; legal = rw c.in-Ok.ensures.plan at c.in-Ok.ensures.legal; recording = rw c.in-Ok.ensures.plan at c.in-Ok.ensures.recording; few = c.in-Ok.ensures.few.0 } in
    unwritten g.L.Law.holds c.args.plan c.args.workers c.args.max_runs (contents c.args.out.now) (contents c.write_rows.new.out) c.in-Ok.recorded.rows c.write_rows.result whole (rw c.in-Ok.ensures.plan at c.write_rows.ensures.refused)

pub returns-in-Err-stop_fault-clause-refused : goal.returns-in-Err-stop_fault-clause-refused
returns-in-Err-stop_fault-clause-refused g c = by_growth c.no_memory.ensures.part c.no_memory.ensures.number (search rules)

pub returns-in-Ok-write_rows-clause-refused : goal.returns-in-Ok-write_rows-clause-refused
returns-in-Ok-write_rows-clause-refused g c =
    let s = c.in-Err.stopped in
    let stops : StopsRecording g.L.Law.holds c.args.plan c.args.workers c.args.max_runs s.reason s.plan s.rows = record {
      states = s.states;
      left = s.left;
      recording = c.in-Err.ensures.so_far;
      same = c.in-Err.ensures.changed;
      bad = c.in-Err.ensures.bad;
      unbegun = λ e. (let u = c.in-Err.ensures.unbegun e in (u.0, u.1));
      no_body = λ r e. c.in-Err.ensures.no_body r e;
      changed = c.in-Err.ensures.why_changed;
      few = c.in-Err.ensures.few_stopped;
      why = c.in-Err.ensures.why;
    } in
    by_stop s.reason s.plan s.rows c.in-Ok-stop_fault.ensures.part c.in-Ok-stop_fault.ensures.number stops c.in-Ok-write_rows.ensures.written

pub returns-clause-refused : goal.returns-clause-refused
returns-clause-refused g c =
    let contents = g.W.Write.contents in
    let s = c.in-Err.stopped in
    let stops : StopsRecording g.L.Law.holds c.args.plan c.args.workers c.args.max_runs s.reason s.plan s.rows = record {
      states = s.states;
      left = s.left;
      recording = c.in-Err.ensures.so_far;
      same = c.in-Err.ensures.changed;
      bad = c.in-Err.ensures.bad;
      unbegun = λ e. (let u = c.in-Err.ensures.unbegun e in (u.0, u.1));
      no_body = λ r e. c.in-Err.ensures.no_body r e;
      changed = c.in-Err.ensures.why_changed;
      few = c.in-Err.ensures.few_stopped;
      why = c.in-Err.ensures.why;
    } in
    untold g.L.Law.holds c.args.plan c.args.workers c.args.max_runs (contents c.args.out.now) (contents c.write_rows-in-Err.new.out) s.reason s.plan s.rows c.in-Err-write_rows.fault stops c.in-Err-write_rows.ensures.refused
