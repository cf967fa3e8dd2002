-- A batch of rows in parts.
use Rattle.std.specs.Prelude.{List, Vec}
use Rattle.std.specs.{List.All, declared.alloc.Global.Global}
use Rattle.lft_ir.specs.{Parts.Parts, Steps.Fits.RowsFit, declared.steps.row.Row.Row}

-- the rows of each part are of the program and within the limits
abbrev pub PartsFit : Parts → List (Vec Row Global) → Type 0
PartsFit program parts = All (λ (part : Vec Row Global). RowsFit program part.items) parts
