-- Inside: what a recording writes, and why it ends before its plan.
use Rattle.std.specs.Prelude.{◌≡◌, ℕ, List, Option}
use Rattle.std.specs.Io.KnownBytes.{Keeps}
use Rattle.lft_ir.specs.{Parts.Parts, declared.steps.row.Row.Row}
use Rattle.lft_trace.specs.Written.{table_text}
use Rattle.lft_load.specs.{Written.AppendsFront, declared.fault.Fault.Fault}
use Rattle.lft_load.specs.declared.fault.Part.TheVariants as part

-- the trace table of the rows wasn't written: a growth was refused, and nothing was written, or the writer failed, and took a front of it
pub data TableRefusal (program : Parts) (rows : List Row) (old new : Option (List ℕ)) (f : Fault) : Type 0 where
  by_growth : f.part ≡ part.Memory → f.number ≡ 1 → Keeps old new → TableRefusal program rows old new f
  by_writer : f.part ≡ part.Write → f.number ≡ 1 → AppendsFront old new (table_text program rows) → TableRefusal program rows old new f
