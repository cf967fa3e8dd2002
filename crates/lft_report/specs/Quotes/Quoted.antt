-- The text of quoted rows.
use Rattle.std.specs.Prelude.{ℕ, ◌+◌, max, List, [], ◌∷◌, ◌++◌, Bool, false, length, Option, Some, None, slice_get, option_map, unwrap_or, nat_lt, nat_le, if◌then◌else◌, fold, codes, decimal}
use Rattle.std.specs.List.{join_with_byte}
use Rattle.lft_ir.specs.{Parts.Parts, declared.steps.row.Row.Row, Words.Columns.{blanks, fill, padded}}
use Rattle.lft_trace.specs.Written.{row_fields}
use Rattle.lft_facts.specs.declared.facts.Fact.{Fact}
use Rattle.lft_report.specs.declared.quotes.{marks.{RowMark.RowMark, Quote.Quote}, quoting.QuoteWidths.QuoteWidths}
use Rattle.lft_report.specs.Quotes.{Marks.mark_words, Picked.quotes_of}

-- the text of the row at a place, as a trace table has it
abbrev pub row_text : Parts → List Row → ℕ → List ℕ
row_text program t i = unwrap_or (option_map (λ row. join_with_byte 44 (row_fields program row)) (slice_get t i)) []

-- the number of the line in which the row at a place stands: line 1 is the header
abbrev pub line_number : ℕ → List ℕ
line_number place = decimal (place + 2)

-- the width of a row to which others are filled: a row of more than 200 bytes counts for nothing
abbrev pub quote_width : List ℕ → ℕ
quote_width text = if nat_le (length text) 200 then length text else 0

-- the widths with one more row
abbrev pub widened : Parts → List Row → QuoteWidths → Quote → QuoteWidths
widened program t w q = record {
  line = max w.line (length (line_number q.row));
  row = max w.row (quote_width (row_text program t q.row));
}

-- the greatest width of the line numbers, and of the rows
abbrev pub widths_of : Parts → List Row → List Quote → QuoteWidths
widths_of program t quotes = fold (widened program t) (record { line = 0; row = 0 }) quotes

-- a line: `  4 | start,0,0,0,main#1,,,  <- here`
abbrev pub quote_line : QuoteWidths → List ℕ → List ℕ → RowMark → List ℕ
quote_line w number row m = codes "  " ++ fill w.line number ++ number ++ codes " | " ++ padded w.row row ++ codes "  " ++ mark_words m ++ codes "\n"

-- a row with its line number before it and its mark behind it
abbrev pub quote_words : Parts → List Row → QuoteWidths → Quote → List ℕ
quote_words program t w q = quote_line w (line_number q.row) (row_text program t q.row) q.mark

-- whether rows are left out between a quote and the one before it
abbrev pub is_apart : Option Quote → Quote → Bool
is_apart None q = false
is_apart (Some before) q = nat_lt (before.row + 1) q.row

-- `..` where rows are left out before a quote
abbrev pub gap_words : QuoteWidths → Option Quote → Quote → List ℕ
gap_words w before q = if is_apart before q then blanks w.line ++ codes "   ..\n" else []

-- the lines of quotes, which stand behind another one or none
abbrev pub lines : Parts → List Row → QuoteWidths → Option Quote → List Quote → List ℕ
lines program t w before [] = []
lines program t w before (q ∷ qs) = gap_words w before q ++ quote_words program t w q ++ lines program t w (Some q) qs

-- the rows that facts name, a line each
abbrev pub quoted_rows : Parts → List Row → List Fact → List ℕ
quoted_rows program t facts = lines program t (widths_of program t (quotes_of facts)) None (quotes_of facts)
