use Rattle.std.proofs.Common.{rules, ◌≡◌, IfErr, Ok, Err, Result, List, ℕ}
use Rattle.csv.specs.Records.{fields_of}
use Rattle.lft_ir.specs.{Parts.Parts, declared.steps.row.Row.Row}
use Rattle.lft_trace.specs.{declared.{fault.TraceFault.TraceFault, kind.RowKind.RowKind}, Traces.{FaultAt, TraceFields, in_order, word}}
use Rattle.lft_trace.specs.inner.Seen.{FieldFault, trace_fields}
use Rattle.lft_trace.proofs.RowFacts.{fault_is}
use Rattle.lft_trace.proofs.trace_table.read_row.Goals as goal

fault_at : (program : Parts) (kind : RowKind) (line : ℕ) (c : TraceFields) (fields : List (List ℕ)) (r : Result Row TraceFault) → fields ≡ in_order c → c.event ≡ word kind → IfErr r (FieldFault program kind line c) → IfErr r (FaultAt program line fields)
fault_at program kind line c fields (Ok row) f w h = tt
fault_at program kind line c fields (Err e) f w h = fault_is program kind line c fields e f w h

pub returns-in-Some-read_kind-clause-fault : goal.returns-in-Some-read_kind-clause-fault
returns-in-Some-read_kind-clause-fault c =
    let f = trace_fields c.in-Some.fields in
    let e : fields_of c.args.fields.now ≡ in_order f = search rules in
    let w : f.event ≡ word c.in-Some-read_kind.kind = search rules in
    fault_at c.args.names.now c.in-Some-read_kind.kind c.args.line f (fields_of c.args.fields.now) c.read_fields.result e w c.read_fields.ensures.fault
