-- Inside: the text of a trace table as it is written.
use Rattle.std.specs.Prelude.{ℕ, List, map}
use Rattle.std.specs.List.{concat}
use Rattle.csv.specs.Writing.{default_writer, row_text}

-- the text of records, as csv writes each
abbrev pub csv_text : List (List (List ℕ)) → List ℕ
csv_text records = concat (map (row_text default_writer) records)
