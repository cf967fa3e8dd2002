-- The order of the runs of a tag.
use Rattle.std.specs.Prelude.{◌≡◌, ℕ, ◌<◌, List, Some, slice_get}
use Rattle.lft_tag.specs.declared.Tag.{Tag}
use Rattle.lft_ir.specs.{Parts.Parts, declared.steps.row.Row.Row}
use Rattle.lft_graph.specs.Precedence.{Precedes}
use Rattle.lft_model.specs.Runs.{start_row, end_row}

-- no run starts before the end of one that precedes it
abbrev pub IsOrdered : Parts → List Row → Type 0
IsOrdered program u = (i j v w : ℕ) (g h : Tag) (r a : ℕ) → i < j → slice_get u i ≡ Some (start_row v g r) → slice_get u j ≡ Some (end_row w h a) → ¬ Precedes program a r
