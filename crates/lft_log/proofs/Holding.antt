-- What the bytes of a log hold, over more bytes and over more lines.
use Rattle.std.proofs.Common.{◌≡◌, ◌∙◌, ℕ, inl, List, [], ◌∷◌, ◌++◌, drop, take, refl, sym, ap}
use Rattle.std.{specs.List.AllZip, proofs.lemmas.List.{append_assoc, append-nil, take-append-drop}}
use Rattle.lft_ir.specs.{Parts.Parts, declared.steps.row.Row.Row}
use Rattle.lft_trace.specs.{LogTables.IsLine, Traces.header, declared.log_table.Line.Line}
use Rattle.lft_tables.proofs.Together.{zipped}
use Rattle.lft_log.specs.{Logs.{HoldSoFar, IsHead, records_below}, inner.Logs.{IsFront, LogLaw, row_records}, declared.front.LinesRead.LinesRead}
use Rattle.lft_log.proofs.{Below.{below_head, lines_joined, no_bytes}, Ends.lines_both, Plain.{no_lines, plain_both}, Behind.{rows_each, zip_cut}}

-- the header came
pub header_there : (program : Parts) (bytes lines head body : List ℕ) → bytes ≡ lines → lines ≡ head ++ body → IsHead head → HoldSoFar program bytes [] [] body
header_there program bytes lines head body e f is = record {
  head = head;
  body = [];
  whole = e ∙ f;
  is_head = is;
  are = inl refl;
  plain = no_lines;
  first = [];
  under = no_bytes;
  each = tt;
}

-- a front of the rest more
pub hold_front : (program : Parts) (bytes text behind : List ℕ) (lines : List Line) (rows_before inputs_before : ℕ) (read : List Row) (front : LinesRead) → HoldSoFar program bytes lines [] (text ++ behind) → (f : IsFront program text rows_before inputs_before read front) → HoldSoFar program bytes (lines ++ f.lines) f.others (drop f.plain text ++ behind)
hold_front program bytes text behind lines rows_before inputs_before read front h f = record {
  head = h.head;
  body = h.body ++ more;
  whole = h.whole ∙ ap (λ (x : List ℕ). h.head ++ x) (ap (λ (x : List ℕ). h.body ++ x) parted ∙ sym (append_assoc h.body more (drop f.plain text ++ behind)));
  is_head = h.is_head;
  are = lines_both h.body more h.are f.are;
  plain = plain_both h.body more h.are h.plain f.quiet;
  first = h.first ++ f.first;
  under = lines_joined h.body more h.are h.plain.unquoted ∙ ap (λ r. r ++ records_below more) (h.under ∙ append-nil h.first) ∙ ap (λ r. h.first ++ r) f.whole ∙ sym (append_assoc h.first f.first f.others);
  each = zipped (IsLine program) h.first f.first lines f.lines h.each f.each;
}
  where
    more : List ℕ
    more = take f.plain text

    parted : text ++ behind ≡ more ++ (drop f.plain text ++ behind)
    parted = ap (λ (x : List ℕ). x ++ behind) (sym (take-append-drop f.plain text)) ∙ append_assoc more (drop f.plain text) behind

-- the last lines are others
pub hold_cut : (program : Parts) (bytes rest : List ℕ) (xs ys : List Line) (others : List (List (List ℕ))) → HoldSoFar program bytes (xs ++ ys) others rest → (cut : List (List (List ℕ))) × HoldSoFar program bytes xs (cut ++ others) rest × AllZip (IsLine program) cut ys
hold_cut program bytes rest xs ys others h =
    let p = zip_cut (IsLine program) h.first xs ys h.each in (
      p.1,
      record {
        head = h.head;
        body = h.body;
        whole = h.whole;
        is_head = h.is_head;
        are = h.are;
        plain = h.plain;
        first = p.0;
        under = h.under ∙ ap (λ r. r ++ others) p.2 ∙ append_assoc p.0 p.1 others;
        each = p.3;
      },
      p.4,
    )

-- more bytes came
pub hold_longer : (program : Parts) (bytes rest more : List ℕ) (lines : List Line) (others : List (List (List ℕ))) → HoldSoFar program bytes lines others rest → HoldSoFar program (bytes ++ more) lines others (rest ++ more)
hold_longer program bytes rest more lines others h = record {
  head = h.head;
  body = h.body;
  whole = ap (λ (x : List ℕ). x ++ more) h.whole ∙ append_assoc h.head (h.body ++ rest) more ∙ ap (λ (x : List ℕ). h.head ++ x) (append_assoc h.body rest more);
  is_head = h.is_head;
  are = h.are;
  plain = h.plain;
  first = h.first;
  under = h.under;
  each = h.each;
}

-- the records of rows of a log are a trace table
pub log_is_table : (program : Parts) → LogLaw program
log_is_table program bytes rest lines h = (
  below_head h.head h.body h.is_head ∙ ap (λ r. header ∷ r) (h.under ∙ append-nil h.first),
  λ few. record { rest = row_records h.first lines; under = refl; each = rows_each program h.first lines h.each; few = few },
)
