-- The records of a written table are those of its rows.
use Rattle.std.proofs.Common.{◌≡◌, ◌∙◌, ℕ, suc, ◌+◌, ◌<◌, ◌++◌, List, [], ◌∷◌, length, map, Some, None, refl, sym, subst, inl, inr, take, get_or, ap, arith, slice_get, slice_index_or, decimal, Option, Vec, false, ◌≢◌, Result, Ok, Err, OnOk, IfOk}
use Rattle.std.specs.{List.{AllZip, concat}, Io.KnownBytes.Appends, declared.alloc.Global.Global}
use Rattle.std.proofs.lemmas.{Bool.cases_lt, Option.{get_or_from_slice_get, slice_get-get_or, slice_get_within}}
use Rattle.std.proofs.lemmas.List.{append-nil, map-append, take_more, Folds.concat-append}
use Rattle.csv.specs.Reading.{default_config, records_from, strip_bom}
use Rattle.csv.specs.Writing.{default_writer, escaped, fields_text, fields_written, has_written, is_blank, read_back, row_text, text_written, writer_setup}
use Rattle.csv.specs.declared.writer.{Writer.Writer, WriterBuilder.WriterBuilder}
use Rattle.csv.proofs.RoundTrip.{read-write}
use Rattle.lft_tag.specs.declared.NoMemory.{NoMemory}
use Rattle.lft_ir.specs.{Parts.Parts, Sound.{IsNameOf, IsSound}}
use Rattle.lft_ir.specs.declared.parts.Name.{Name, TheVariants.{Port, Action}}
use Rattle.lft_ir.specs.declared.steps.row.{Row.Row, Step.{Step, TheVariants.{Start, Read, Write, Schedule, Stop, End}}}
use Rattle.lft_ir.specs.Steps.Fits.{RowFits, RowsFit, StepFits}
use Rattle.lft_tables.{specs.Records.records_of, proofs.Fuel.{at-end, one-more}}
use Rattle.lft_trace.specs.Traces.{IsRow, IsStep, IsThing, Table, TraceFields, header, in_order, word}
use Rattle.lft_trace.specs.inner.{SeenWriting.{AllHaveWords, HasWord, HasWords, HasWritten}, Written.csv_text}
use Rattle.lft_trace.specs.Written.{event_of, name_text, row_fields, step_fields, written_records}
use Rattle.lft_trace.proofs.NumbersBack.{delay_back, number_back, value_back}
use Rattle.csv.specs.declared.writer.QuoteStyle.TheVariants as style
use Rattle.csv.specs.declared.parser.State.TheVariants as st

abbrev Texts : Type 0
Texts = List (List (List ℕ))

all_back : (records : Texts) → records_from default_config (length (csv_text records) + 1) st.StartRecord (csv_text records) ≡ map read_back records
all_back [] = at-end default_config 1
all_back (r ∷ rs) =
    one-more default_config st.StartRecord (row_text default_writer r ++ csv_text rs) (read_back r, st.StartRecord, csv_text rs) (read-write r (csv_text rs))
    ∙ ap (λ (t : Texts). read_back r ∷ t) (all_back rs)

-- the header begins with no byte order mark
no_mark : (rest : List ℕ) → strip_bom (row_text default_writer header ++ rest) ≡ row_text default_writer header ++ rest
unfolding is_blank fields_text escaped strip_bom
no_mark rest = refl

fields_back : (program : Parts) (rows : List Row) → map read_back (map (row_fields program) rows) ≡ map (row_fields program) rows
fields_back program [] = refl
fields_back program (r ∷ rs) = ap (λ (t : Texts). row_fields program r ∷ t) (fields_back program rs)

pub records_back : (program : Parts) (rows : List Row) → records_of (csv_text (written_records program rows)) ≡ written_records program rows
records_back program rows =
    rw (no_mark (csv_text (map (row_fields program) rows))) (all_back (written_records program rows) ∙ ap (λ (t : Texts). header ∷ t) (fields_back program rows))

each_row : (program : Parts) (rows : List Row) → ((k : ℕ) (row : Row) → slice_get rows k ≡ Some row → IsRow program (row_fields program row) row)
    → AllZip (IsRow program) (map (row_fields program) rows) rows
each_row program [] h = tt
each_row program (r ∷ rs) h = (h 0 r refl, each_row program rs (λ k row e. h (suc k) row e))

-- one more row is written
pub written_more : (records : Texts) (r : List (List ℕ)) → csv_text (records ++ (r ∷ [])) ≡ csv_text records ++ row_text default_writer r
written_more records r =
    ap concat (map-append (row_text default_writer) records (r ∷ [])) ∙ concat-append (map (row_text default_writer) records) (row_text default_writer r ∷ [])
    ∙ ap (λ (t : List ℕ). csv_text records ++ t) (append-nil (row_text default_writer r))

pub records_more : (program : Parts) (rows : List Row) (row : Row) → written_records program (rows ++ (row ∷ [])) ≡ written_records program rows ++ (row_fields program row ∷ [])
records_more program rows row = ap (λ (t : Texts). header ∷ t) (map-append (row_fields program) rows (row ∷ []))

thing_back : (program : Parts) (n : Name) → IsSound program → IsNameOf program n → IsThing program (name_text program n) n
thing_back program (Port p) sound h = slice_get-get_or program.names.ports p [] (rw sound.well_named.ports h)
thing_back program (Action a) sound h = slice_get-get_or program.names.actions a [] (rw sound.well_named.actions h)

-- the fields of a row by their names
abbrev fields_by_name : Parts → Row → TraceFields
fields_by_name program row = record {
  event = word (event_of row.step);
  worker = decimal row.worker;
  time = decimal row.tag.time;
  microstep = decimal row.tag.micro;
  reaction = slice_index_or program.names.reactions row.reaction [];
  name = slice_index_or (step_fields program row.step) 0 [];
  value = slice_index_or (step_fields program row.step) 1 [];
  delay = slice_index_or (step_fields program row.step) 2 [];
}

pub three : (program : Parts) (s : Step) → step_fields program s ≡ slice_index_or (step_fields program s) 0 [] ∷ slice_index_or (step_fields program s) 1 [] ∷ slice_index_or (step_fields program s) 2 [] ∷ []
three program Start = refl
three program (Read n v) = refl
three program (Write n v) = refl
three program (Schedule n v delay) = refl
three program Stop = refl
three program End = refl

step_back : (program : Parts) (w : ℕ) (row : Row) (s : Step) → row.step ≡ s → IsSound program → StepFits program s → HasWord s → IsStep program (event_of s) (fields_by_name program row) s
step_back program w row Start e sound fits word = rw e (refl, refl, refl, refl)
step_back program w row (Read n v) e sound fits word = rw e (n, v, thing_back program n sound fits, value_back v word, refl, refl)
step_back program w row (Write n v) e sound fits word = rw e (n, v, thing_back program n sound fits, value_back v word, refl, refl)
step_back program w row (Schedule n v delay) e sound fits word = rw e (n, v, delay, thing_back program n sound fits.0, value_back v word, delay_back delay fits.1, refl)
step_back program w row Stop e sound fits word = rw e (refl, refl, refl, refl)
step_back program w row End e sound fits word = rw e (refl, refl, refl, refl)

-- what is written of a row is read as that row
pub row_back : (program : Parts) (row : Row) → IsSound program → RowFits program row → HasWords row → IsRow program (row_fields program row) row
row_back program row sound fits words =
    let c = fields_by_name program row in
    let same : row_fields program row ≡ in_order c = rw (three program row.step) refl in
    let recorded = fits.recorded in (
      c,
      event_of row.step,
      same,
      record {
        event = refl;
        worker = number_back 4294967295 row.worker words.0 (omega (arith, words));
        time = number_back 1000000000000000000 row.tag.time (omega (arith, recorded)) (omega (arith, recorded));
        microstep = number_back 1000000000 row.tag.micro (omega (arith, recorded)) (omega (arith, recorded));
        reaction = slice_get-get_or program.names.reactions row.reaction [] (rw sound.well_named.reactions fits.reaction);
        step = step_back program 0 row row.step refl sound fits.step words.1;
      },
    )

appended : (old new : Option (List ℕ)) (xs bs : List ℕ) → old ≡ Some xs → Appends old new bs → new ≡ Some (xs ++ bs)
appended None new xs bs e h = absurd (cc e)
appended (Some ys) None xs bs e h = absurd h
appended (Some ys) (Some zs) xs bs e h = let s : ys ≡ xs = cc e in ap Some (h ∙ ap (λ (t : List ℕ). t ++ bs) s)

-- a record that csv wrote is one more
pub one_written : (a b : Writer (Vec ℕ Global)) (records : Texts) (fields : List (List ℕ))
    → ((fields_written a ≡ 0) → (has_written a ≡ false) → ((writer_setup a).style ≢ style.NonNumeric) → Appends (text_written (λ (v : Vec ℕ Global). Some v.items) a) (text_written (λ (v : Vec ℕ Global). Some v.items) b) (row_text (writer_setup a) fields))
    → fields_written b ≡ 0 → has_written b ≡ false → writer_setup b ≡ writer_setup a → HasWritten a records → HasWritten b (records ++ (fields ∷ []))
one_written a b records fields bytes ended clean setup (is, none, plain, text) =
    let style : (writer_setup a).style ≢ style.NonNumeric = rw is (λ e. cc e) in
    let more = appended (text_written (λ (v : Vec ℕ Global). Some v.items) a) (text_written (λ (v : Vec ℕ Global). Some v.items) b) (csv_text records) (row_text (writer_setup a) fields) text (bytes none plain style) in
    (setup ∙ is, ended, clean, more ∙ ap (λ (w : WriterBuilder). Some (csv_text records ++ row_text w fields)) is ∙ ap Some (sym (written_more records fields)))

pub once_written : {E : Type 0} (before : Texts) (a b : Writer (Vec ℕ Global)) (fields : List (List ℕ)) (r : Result (Unit {0}) E) → HasWritten a before
    → OnOk r ((records : Texts) → HasWritten a records → HasWritten b (records ++ (fields ∷ []))) → OnOk r (HasWritten b (before ++ (fields ∷ [])))
once_written before a b fields (Ok x) h f = f before h
once_written before a b fields (Err e) h f = tt

pub written_one : (program : Parts) (rows : List Row) (at : ℕ) (row : Row) (w : Writer (Vec ℕ Global)) → slice_get rows at ≡ Some row
    → HasWritten w (written_records program (take at rows) ++ (row_fields program row ∷ [])) → HasWritten w (written_records program (take (at + 1) rows))
written_one program rows at row w e h =
    let is : get_or rows at row ≡ row = get_or_from_slice_get rows at row row e in
    let more : take (at + 1) rows ≡ take at rows ++ (row ∷ []) = take_more rows at row (slice_get_within rows at row e) ∙ ap (λ (r : Row). take at rows ++ (r ∷ [])) is in
    subst (λ (t : Texts). HasWritten w t) (sym (ap (written_records program) more ∙ records_more program (take at rows) row)) h

pub words_one : (rows : List Row) (at : ℕ) (row : Row) → slice_get rows at ≡ Some row → HasWords row → ((k : ℕ) (other : Row) → k < at → slice_get rows k ≡ Some other → HasWords other)
    → (k : ℕ) (other : Row) → k < at + 1 → slice_get rows k ≡ Some other → HasWords other
words_one rows at row e is before k other less there = elim (cases_lt k at) [
  | inl l ↦ before k other l there
  | inr l ↦
      let same : k ≡ at = omega (arith, l, less) in
      let both : Some other ≡ Some row = sym there ∙ rw same e in
      let one : other ≡ row = cc both in
      rw one is
]

-- the table of the rows that were written
pub table_back : (program : Parts) (rows : List Row) (r : Result (Vec ℕ Global) NoMemory) → IsSound program → RowsFit program rows
    → IfOk r (λ text. text.items ≡ csv_text (written_records program rows)) → OnOk r (AllHaveWords rows) → IfOk r (λ text. Table program (records_of text.items) rows)
table_back program rows (Err e) sound fit bytes words = tt
table_back program rows (Ok text) sound fit bytes words = rw bytes (record {
  rest = map (row_fields program) rows;
  under = records_back program rows;
  each = each_row program rows (λ k row e. row_back program row sound (fit.each k row e) (words k row e));
  few = fit.few;
})
