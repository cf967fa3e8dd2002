-- The rows that a text begins with are the first that it tells.
use Rattle.std.proofs.Common.{◌≡◌, ◌∙◌, ◌++◌, ℕ, List, ap}
use Rattle.std.{specs.List.filter_map, proofs.lemmas.List.Elements.filter_map-append}
use Rattle.lft_ir.specs.{Parts.Parts, Sound.IsSound, declared.steps.row.Row.Row}
use Rattle.lft_tables.specs.Records.{records_of}
use Rattle.lft_trace.{specs.inner.{Telling.{row_in, rows_in}, Parts.BeginsWith}, proofs.Telling.records_are}

pub tells : (program : Parts) (text rest : List ℕ) (rows : List Row) → IsSound program → BeginsWith program text rows rest → rows_in program text ≡ rows ++ rows_in program rest
unfolding rows_in
tells program text rest rows sound (first, whole, each) =
    ap (filter_map (row_in program)) whole ∙ filter_map-append (row_in program) first (records_of rest) ∙ ap (λ (t : List Row). t ++ filter_map (row_in program) (records_of rest)) (records_are program sound.well_named.distinct first rows each)
