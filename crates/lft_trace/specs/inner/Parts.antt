-- Inside: the rows of texts that are read in parts.
use Rattle.std.specs.Prelude.{ℕ, List}
use Rattle.lft_ir.specs.{Parts.Parts, declared.steps.row.Row.Row}
use Rattle.lft_tables.specs.inner.Parts.{BeginsItems, HoldsItems}
use Rattle.lft_trace.specs.Traces.{IsRow}

-- the text has no quotation mark, and its records are those of the rows, one by one
abbrev pub HoldsRows : Parts → List ℕ → List Row → Type 0
HoldsRows program text rows = HoldsItems (IsRow program) text rows

-- the text's records are those of the rows, one by one, and behind them those of the rest
abbrev pub BeginsWith : Parts → List ℕ → List Row → List ℕ → Type 0
BeginsWith program text rows rest = BeginsItems (IsRow program) text rows rest
