-- What one more record does to rows with external inputs among them, and that what is read fits its program.
use Rattle.std.proofs.Common.{Bor, ◌≡◌, ◌∙◌, ◌+◌, ◌≤◌, ◌++◌, ℕ, zero, suc, List, [], ◌∷◌, length, drop, filter_map, IfSome, Some, slice_get, refl, sym, ap, subst, arith, append_assoc, append-nil, length-append}
use Rattle.std.specs.{Io.Cursor.{cursor_inner, cursor_position}, declared.io.impls.Cursor.Cursor, List.AllZip}
use Rattle.std.proofs.lemmas.{List.Elements.{All-cons, All-nil, filter_map-append}, Slice.Zip.all_zipped_more}
use Rattle.lft_ir.specs.{Parts.Parts, Sound.IsSound, Steps.Fits.RowsFit, declared.steps.row.Row.Row as TheRow}
use Rattle.lft_lists.proofs.Zips.{behind}
use Rattle.lft_trace.specs.{ExternalTables.IsEntry, LogTables.{IsLine, row_of}, inner.LogTables.{EntryFits, InputsFit, ReadsLines, inputs_behind}, Traces.IsRow}
use Rattle.lft_trace.specs.declared.external_table.Entry.{Entry, TheVariants.{Happens, Stops}}
use Rattle.lft_trace.specs.declared.log_table.{Among.Among, Line.{Line, TheVariants.{Row, Input}}, LogLines.LogLines}
use Rattle.lft_trace.proofs.{ExternalTableFacts.{event_fits, stop_fits}, TraceFacts.row_fits}
use Rattle.lft_tables.specs.{inner.Records.{fields_at_hand, in_cursor, IsNext, IsPlain, IsUnread, records_left}, Records.records_of}
use Rattle.lft_tables.specs.declared.records.Records.{Records}
use Rattle.lft_tables.proofs.TableFacts.{Texts}

-- ---- many

abbrev pub among : ℕ → Entry → Among
among n e = record { rows_before = n; entry = e }

-- a row behind all lines is before no external input
behind_row : (n : ℕ) (lines : List Line) (row : TheRow) → inputs_behind n (lines ++ (Row row ∷ [])) ≡ inputs_behind n lines
behind_row n [] row = refl
behind_row n (Row r ∷ lines) row = behind_row (n + 1) lines row
behind_row n (Input e ∷ lines) row = ap (λ (t : List Among). among n e ∷ t) (behind_row n lines row)

-- an external input behind all lines has all their rows before it
behind_input : (n : ℕ) (lines : List Line) (e : Entry) → inputs_behind n (lines ++ (Input e ∷ [])) ≡ inputs_behind n lines ++ (among (n + length (filter_map row_of lines)) e ∷ [])
behind_input n [] e = let m : n ≡ n + 0 = omega arith in ap (λ (k : ℕ). among k e ∷ []) m
behind_input n (Row r ∷ lines) e =
    let m : n + 1 + length (filter_map row_of lines) ≡ n + length (r ∷ filter_map row_of lines) = omega arith in
    behind_input (n + 1) lines e ∙ ap (λ (k : ℕ). inputs_behind (n + 1) lines ++ (among k e ∷ [])) m
behind_input n (Input x ∷ lines) e = ap (λ (t : List Among). among n x ∷ t) (behind_input n lines e)

-- what is read up to a record: these rows and external inputs, with the others left
pub record Gone (program : Parts) (records : Texts) (rows : List TheRow) (inputs : List Among) (r : Records (Cursor (Bor (List ℕ)))) : Type 0 where
  pub lines : List Line
  pub first : Texts
  pub plain : IsPlain in_cursor r
  pub whole : records ≡ first ++ records_left in_cursor r
  pub each : AllZip (IsLine program) first lines
  pub rows_are : rows ≡ filter_map row_of lines
  pub inputs_are : inputs ≡ inputs_behind 0 lines
  pub few : length rows ≤ r.line
  pub line : r.line ≤ r.last
  pub last : r.last ≡ 4000000

pub start : (program : Parts) (text : Bor (List ℕ)) (c : Cursor (Bor (List ℕ))) (r : Records (Cursor (Bor (List ℕ)))) → cursor_inner c ≡ text → cursor_position c ≡ 0 → IfSome (in_cursor c) (λ t. IsUnread in_cursor r t 4000000) → Gone program (records_of text.now) [] [] r
start program text c r inner position unread = record {
  lines = [];
  first = [];
  plain = u.plain;
  whole = sym u.left;
  each = tt;
  rows_are = refl;
  inputs_are = refl;
  few = omega arith;
  line = let a = u.line in let b = u.last in omega (arith, a, b);
  last = u.last;
}
  where
    u : IsUnread in_cursor r text.now 4000000
    u = subst (λ (t : List ℕ). IsUnread in_cursor r t 4000000) (ap (λ (n : ℕ). drop n c.inner.now) position ∙ ap (λ (b : Bor (List ℕ)). b.now) inner) unread

module _ (program : Parts) (records : Texts) (rows : List TheRow) (inputs : List Among) (old new : Records (Cursor (Bor (List ℕ)))) (r : Gone program records rows inputs old) (g : IsNext in_cursor old new) where
  whole_after : records ≡ (r.first ++ (fields_at_hand new ∷ [])) ++ records_left in_cursor new
  whole_after = r.whole ∙ ap (λ (t : Texts). r.first ++ t) g.left ∙ sym (append_assoc r.first (fields_at_hand new ∷ []) (records_left in_cursor new))

  line_after : new.line ≤ new.last
  line_after = let next = g.line in let inside = g.within in let last = g.last in omega (arith, next, inside, last)

  pub row_more : (row : TheRow) → IsRow program (fields_at_hand new) row → Gone program records (rows ++ (row ∷ [])) inputs new
  row_more row is = record {
    lines = r.lines ++ (Row row ∷ []);
    first = r.first ++ (fields_at_hand new ∷ []);
    plain = g.plain;
    whole = whole_after;
    each = all_zipped_more (IsLine program) r.first r.lines (fields_at_hand new) (Row row) r.each is;
    rows_are = ap (λ (t : List TheRow). t ++ (row ∷ [])) r.rows_are ∙ sym (filter_map-append row_of r.lines (Row row ∷ []));
    inputs_are = r.inputs_are ∙ sym (behind_row 0 r.lines row);
    few = let l = length-append rows (row ∷ []) in let few = r.few in let next = g.line in omega (arith, l, few, next);
    line = line_after;
    last = g.last ∙ r.last;
  }

  pub input_more : (entry : Entry) → IsEntry program (fields_at_hand new) entry → Gone program records rows (inputs ++ (record { rows_before = length rows; entry = entry } ∷ [])) new
  input_more entry is = record {
    lines = r.lines ++ (Input entry ∷ []);
    first = r.first ++ (fields_at_hand new ∷ []);
    plain = g.plain;
    whole = whole_after;
    each = all_zipped_more (IsLine program) r.first r.lines (fields_at_hand new) (Input entry) r.each is;
    rows_are = r.rows_are ∙ sym (filter_map-append row_of r.lines (Input entry ∷ []) ∙ append-nil (filter_map row_of r.lines));
    inputs_are =
        let l : length rows ≡ length (filter_map row_of r.lines) = ap length r.rows_are in
        let m : length rows ≡ 0 + length (filter_map row_of r.lines) = omega arith in
        ap (λ (t : List Among). t ++ (among (length rows) entry ∷ [])) r.inputs_are ∙ ap (λ (k : ℕ). inputs_behind 0 r.lines ++ (among k entry ∷ [])) m ∙ sym (behind_input 0 r.lines entry);
    few = let few = r.few in let next = g.line in omega (arith, few, next);
    line = line_after;
    last = g.last ∙ r.last;
  }

-- ---- fits

row_behind : (lines : List Line) (i : ℕ) (row : TheRow) → slice_get (filter_map row_of lines) i ≡ Some row → (j : ℕ) × (slice_get lines j ≡ Some (Row row))
row_behind [] i row h = cc (h)
row_behind (Row x ∷ lines) zero row h = let s : x ≡ row = cc (h) in (0, ap (λ (y : TheRow). Some (Row y)) s)
row_behind (Row x ∷ lines) (suc i) row h = let r = row_behind lines i row h in (suc r.0, r.1)
row_behind (Input e ∷ lines) i row h = let r = row_behind lines i row h in (suc r.0, r.1)

pub rows_fit : (program : Parts) (records : Texts) (rows : List TheRow) (read : LogLines) → IsSound program → ReadsLines program records rows read → length rows ≤ 4000000 → RowsFit program rows
rows_fit program records rows read sound h few = record {
  few = few;
  each = λ i row at.
      let j = row_behind h.lines i row (rw (← h.rows_are) at) in
      let b = behind (IsLine program) h.first h.lines j.0 (Row row) h.each j.1 in
      row_fits program b.1.1 b.1.0 row sound b.1.3;
}

entry_fits : (program : Parts) (fields : List (List ℕ)) (entry : Entry) → IsEntry program fields entry → EntryFits program entry
entry_fits program fields (Happens e) h = event_fits program h.1 h.0 e h.4
entry_fits program fields (Stops g) h = stop_fits program h.1 h.0 g h.4

abbrev FitsIn : Parts → Among → Type 0
FitsIn program a = EntryFits program a.entry

entries_fit : (program : Parts) (n : ℕ) (first : Texts) (lines : List Line) → AllZip (IsLine program) first lines → InputsFit program (inputs_behind n lines)
entries_fit program n [] [] h = All-nil (FitsIn program)
entries_fit program n (f ∷ first) [] h = absurd h
entries_fit program n [] (line ∷ lines) h = absurd h
entries_fit program n (f ∷ first) (Row row ∷ lines) h = entries_fit program (n + 1) first lines h.1
entries_fit program n (f ∷ first) (Input entry ∷ lines) h = All-cons (FitsIn program) (among n entry) (inputs_behind n lines) (entry_fits program f entry h.0) (entries_fit program n first lines h.1)

pub inputs_fit : (program : Parts) (records : Texts) (rows : List TheRow) (read : LogLines) → ReadsLines program records rows read → InputsFit program read.inputs.items
inputs_fit program records rows read h = rw h.inputs_are (entries_fit program 0 h.first h.lines h.each)

-- ---- rows behind others

-- what is read up to a record, its rows behind others
pub record GoneBehind (program : Parts) (records : Texts) (others rows : List TheRow) (inputs : List Among) (r : Records (Cursor (Bor (List ℕ)))) : Type 0 where
  pub read : List TheRow
  pub behind : rows ≡ others ++ read
  pub gone : Gone program records read inputs r
