-- What the clauses of single steps see of the writing of rows: the writer, and the sizes of numbers.
use Rattle.std.specs.Prelude.{◌≡◌, ℕ, ◌<◌, ◌≤◌, ◌^◌, List, Vec, Some, false, slice_get}
use Rattle.std.specs.{declared.alloc.Global.Global, Int.Signed.mag}
use Rattle.csv.specs.{Writing.{default_writer, fields_written, has_written, text_written, writer_setup}, declared.writer.Writer.Writer}
use Rattle.lft_ir.specs.declared.parts.Value.{Value, TheVariants.{Bare, Int}}
use Rattle.lft_ir.specs.declared.steps.row.{Row.Row, Step.{Step, TheVariants.{Start, Read, Write, Schedule, Stop, End}}}
use Rattle.lft_trace.specs.inner.Written.{csv_text}

-- the writer has written these records, as csv's defaults say, and stands between two records
abbrev pub HasWritten : Writer (Vec ℕ Global) → List (List (List ℕ)) → Type 0
HasWritten w records = (writer_setup w ≡ default_writer) × (fields_written w ≡ 0) × (has_written w ≡ false) × (text_written (λ (v : Vec ℕ Global). Some v.items) w ≡ Some (csv_text records))

-- the value is one of 64 bits (`mag` is the magnitude, and one less below zero)
abbrev pub IsWord : Value → Type 0
IsWord Bare = Unit {0}
IsWord (Int n) = mag n < 2 ^ 63

-- the value of a step, where it has one, is one of 64 bits
abbrev pub HasWord : Step → Type 0
HasWord Start = Unit {0}
HasWord (Read n v) = IsWord v
HasWord (Write n v) = IsWord v
HasWord (Schedule n v delay) = IsWord v
HasWord Stop = Unit {0}
HasWord End = Unit {0}

-- the worker and the value of a row, where it has one, are of 32 and of 64 bits
abbrev pub HasWords : Row → Type 0
HasWords row = (row.worker ≤ 4294967295) × HasWord row.step

-- so are those of all rows
abbrev pub AllHaveWords : List Row → Type 0
AllHaveWords rows = (k : ℕ) (row : Row) → slice_get rows k ≡ Some row → HasWords row
