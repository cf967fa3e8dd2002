use Rattle.std.proofs.Common.{◌≡◌, inl, inr, List, true, sym, subst}
use Rattle.std.proofs.lemmas.Result.{IfErr-weaker, IfOk-weaker}
use Rattle.lft_ir.specs.{Parts.Parts, declared.steps.row.Row.Row}
use Rattle.lft_trace.{specs.{Faults.is_told, Traces.{Table, TraceFails}}, proofs.TraceFacts.one_table}
use Rattle.lft_tables.specs.Records.{records_of}
use Rattle.lft_driver.specs.{Meaning.HasTable, Refusals.CheckRefusal}
use Rattle.lft_coverage.specs.inner.Driver.Covered.{IsCovered, IsCoveredTable, IsUncovered}
use Rattle.lft_coverage.proofs.driver.covered.cover_table.Goals as goal

pub returns-in-Some-clause-covered : goal.returns-in-Some-clause-covered
returns-in-Some-clause-covered g c =
    let plan = c.args.plan.now in
    let records = records_of c.args.trace.now in
    let x = c.in-Some.ensures in
    (x.0, record { is = x.1; only = λ other h. one_table plan.program records x.0 other c.program-program.ensures.sound.sound x.1 h }, (x.2, x.3))

pub returns-in-Ok-clause-covered : goal.returns-in-Ok-clause-covered
returns-in-Ok-clause-covered g c =
    let plan = c.args.plan.now in
    let records = records_of c.args.trace.now in
    let same = c.program-program.ensures.value in
    let table : HasTable c.args.plan.now.program c.args.trace.now c.in-Ok.rows = record {
      is = subst (λ (p : Parts). Table p records c.in-Ok.rows) same c.in-Ok.ensures.table;
      only = λ (other : List Row) (h : Table plan.program records other). c.in-Ok.ensures.one other (subst (λ (p : Parts). Table p records other) (sym same) h);
    } in
    IfOk-weaker c.cover_rows.result (IsCovered plan c.in-Ok.rows) (IsCoveredTable plan c.args.trace.now) (λ covered is. (c.in-Ok.rows, table, is)) c.cover_rows.ensures.covered

pub returns-in-Ok-clause-refused : goal.returns-in-Ok-clause-refused
returns-in-Ok-clause-refused g c =
    let plan = c.args.plan.now in
    let records = records_of c.args.trace.now in
    let same = c.program-program.ensures.value in
    let table : HasTable plan.program c.args.trace.now c.in-Ok.rows = record {
      is = subst (λ (p : Parts). Table p records c.in-Ok.rows) same c.in-Ok.ensures.table;
      only = λ (other : List Row) (h : Table plan.program records other). c.in-Ok.ensures.one other (subst (λ (p : Parts). Table p records other) (sym same) h);
    } in
    IfErr-weaker c.cover_rows.result (CheckRefusal c.args.workers) (IsUncovered plan c.args.trace.now c.args.workers) (λ f x. inl (c.in-Ok.rows, table, x)) c.cover_rows.ensures.refused

pub returns-in-Err-clause-refused : goal.returns-in-Err-clause-refused
returns-in-Err-clause-refused g c =
    let trace = c.args.trace.now in
    let e = c.in-Err.fault in
    inr (e, c.trace.ensures.part, c.trace.ensures.number, subst (λ (p : Parts). is_told e ≡ true → TraceFails p (records_of trace) e × ((rows : List Row) → ¬ Table p (records_of trace) rows)) c.program-program.ensures.value c.in-Err.ensures.fault)
