-- The table of what a run read of its inputs, and what is present.
use Rattle.std.specs.Prelude.{ℕ, zero, suc, Bool, true, false, not, max, List, [], ◌∷◌, ◌++◌, length, codes, decimal, bytes_eq, fold, flat_map, if◌then◌else◌}
use Rattle.lft_ir.specs.{Parts.Parts, Words.{Words.{value_words, name_words}, Columns.padded}}
use Rattle.lft_facts.specs.declared.facts.Fact.{Fact}
use Rattle.lft_report.specs.declared.reads.ColumnWidths.{ColumnWidths}
use Rattle.lft_facts.specs.declared.facts.Fact.TheVariants as fact

-- the fact alone, or nothing
abbrev pub fact_alone : Bool → Fact → List Fact
fact_alone true f = f ∷ []
fact_alone false f = []

-- the fact, where it is on an input that was read as it is present, or where same is false, otherwise
abbrev pub read_so : Bool → Fact → List Fact
read_so same (fact.Reads g r k n read present) = fact_alone (if bytes_eq (value_words read) (value_words present) then same else not same) (fact.Reads g r k n read present)
read_so same _ = []

-- the facts on inputs of which that is so
abbrev pub reads_so : Bool → List Fact → List Fact
reads_so same facts = flat_map (read_so same) facts

-- the widths of the columns with one more line
abbrev pub widened : Parts → ColumnWidths → Fact → ColumnWidths
widened program w (fact.Reads g r k n read present) = record {
  name = max w.name (length (name_words program n));
  read = max w.read (length (value_words read));
  present = max w.present (length (value_words present));
}
widened program w _ = w

-- the columns are as wide as their words, those of the head too
abbrev pub widths_of : Parts → List Fact → ColumnWidths
widths_of program facts = fold (widened program) (record { name = 5; read = 4; present = 7 }) facts

-- a line of three cells
abbrev pub input_line : ColumnWidths → List ℕ → List ℕ → List ℕ → List ℕ
input_line w name read last = codes "  " ++ padded w.name name ++ codes "  " ++ padded w.read read ++ codes "  " ++ last ++ codes "\n"

-- a line for an input
abbrev pub read_line : Parts → ColumnWidths → Fact → List ℕ
read_line program w (fact.Reads g r k n read present) = input_line w (name_words program n) (value_words read) (value_words present)
read_line program w _ = []

-- lines below the head of the table, where there are some
abbrev pub headed : ColumnWidths → List ℕ → List ℕ
headed w [] = []
headed w (byte ∷ bytes) = input_line w (codes "input") (codes "read") (codes "present") ++ byte ∷ bytes

-- the lines of the inputs
abbrev pub read_lines : Parts → ColumnWidths → List Fact → List ℕ
read_lines program w facts = flat_map (read_line program w) facts

-- the table of the inputs of some facts
abbrev pub input_lines : Parts → List Fact → List ℕ
input_lines program facts = headed (widths_of program facts) (read_lines program (widths_of program facts) facts)

-- `Other inputs, read as they are: N`, where there are some
abbrev pub others_words : ℕ → List ℕ
others_words zero = []
others_words (suc n) = codes "  Other inputs, read as they are: " ++ decimal (suc n) ++ codes "\n"

-- the table of the inputs that were read otherwise than they are present, and how many others there are
abbrev pub inputs_table : Parts → List Fact → List ℕ
inputs_table program facts = input_lines program (reads_so false facts) ++ others_words (length (reads_so true facts))
