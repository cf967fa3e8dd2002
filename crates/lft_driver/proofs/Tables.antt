-- What a reader of trace tables says of a text holds under a plan of the same program.
use Rattle.std.proofs.Common.{◌≡◌, ℕ, List, true, sym, subst}
use Rattle.lft_ir.specs.{Parts.Parts, declared.steps.row.Row.Row}
use Rattle.lft_trace.specs.{Faults.is_told, Traces.{Table, TraceFails}, declared.fault.TraceFault.TraceFault}
use Rattle.lft_tables.specs.Records.{records_of}
use Rattle.lft_load.{specs.{Faults.table_number, Refusals.is_of_text, declared.fault.Fault.Fault}, proofs.Loading.{trace_told, told_at}}
use Rattle.lft_driver.specs.{Meaning.{HasTable, IsNoTrace}, Refusals.TraceRefusal}
use Rattle.lft_load.specs.declared.fault.Part.TheVariants as part

module _ (trace : List ℕ) (p program : Parts) (same : p ≡ program) where
  pub has_table : (rows : List Row) → Table p (records_of trace) rows → ((other : List Row) → Table p (records_of trace) other → other ≡ rows) → HasTable program trace rows
  has_table rows table one = record {
    is = subst (λ q. Table q (records_of trace) rows) same table;
    only = λ other x. one other (subst (λ q. Table q (records_of trace) other) (sym same) x);
  }

  module _ (e : TraceFault) (f : Fault) (in_part : f.part ≡ part.Trace) (numbered : f.number ≡ table_number e) (fails : is_told e ≡ true → TraceFails p (records_of trace) e × ((rows : List Row) → ¬ Table p (records_of trace) rows)) where
    pub unread : TraceRefusal program trace f
    unread = (e, in_part, numbered, λ t. subst (λ q. TraceFails q (records_of trace) e) same (fails t).0)

    pub no_trace : is_of_text f.part f.number ≡ true → IsNoTrace program trace
    no_trace t rows x = (fails (trace_told e (told_at f.part part.Trace f.number (table_number e) in_part numbered t))).1 rows (subst (λ q. Table q (records_of trace) rows) (sym same) x)
