-- No name has a byte that csv quotes, so each record is written as its fields with commas between them.
use Rattle.std.proofs.Common.{◌≡◌, ◌≢◌, ◌∙◌, subst, ℕ, zero, suc, ◌^◌, ◌<◌, ◌≤◌, ◌++◌, List, [], ◌∷◌, map, Some, refl, ap, arith, slice_get, slice_index_or, decimal, false, pos, negsuc, All, codes, Vec, Result, Ok, Err, IfOk, OnOk}
use Rattle.std.specs.Prelude.{⊤}
use Rattle.std.specs.{List.{concat, join_with_byte, list_any}, declared.alloc.Global.Global}
use Rattle.std.proofs.lemmas.{Bool.ne_eqb, List.{append-nil, Elements.All-weaker, Folds.list_any_none}, Option.slice_get-get_or}
use Rattle.csv.specs.Writing.{default_writer, field_text, fields_text, is_blank, needs_byte, row_text}
use Rattle.lft_tag.specs.declared.NoMemory.{NoMemory}
use Rattle.lft_ir.specs.{Names.{IsNamed, IsNameByte}, Parts.Parts, Sound.{IsNameOf, IsSound}}
use Rattle.lft_ir.specs.declared.parts.{Name.{Name, TheVariants.{Port, Action}}, Value.{Value, TheVariants.{Bare, Int}}}
use Rattle.lft_ir.specs.declared.steps.row.{Row.Row, Step.{Step, TheVariants.{Start, Read, Write, Schedule, Stop, End}}}
use Rattle.lft_ir.specs.Steps.Fits.{RowFits, RowsFit, StepFits}
use Rattle.lft_ir.proofs.Decimals.{All-decimal}
use Rattle.lft_trace.specs.{Traces.{header, word}, inner.{SeenWriting.{AllHaveWords, HasWord, HasWords, IsWord}, Written.csv_text}}
use Rattle.lft_trace.specs.Written.{delay_text, event_of, line, name_text, row_fields, step_fields, table_text, value_text, written_records}
use Rattle.lft_ir.specs.declared.found.Found.TheVariants as found

-- csv writes the field as it is
abbrev IsPlain : List ℕ → Type 0
IsPlain field = list_any (needs_byte default_writer) field ≡ false

abbrev ArePlain : List (List ℕ) → Type 0
ArePlain [] = ⊤
ArePlain (field ∷ fields) = IsPlain field × ArePlain fields

-- a byte of a name isn't one that no name has
other_byte : (b c : ℕ) → IsNameByte b → (IsNameByte c → ⊥) → b ≢ c
other_byte b c is never same = never (subst IsNameByte same is)

-- csv writes no byte of a name between quotes
plain_byte : (b : ℕ) → IsNameByte b → needs_byte default_writer b ≡ false
plain_byte b is = rw (ne_eqb b 44 (other_byte b 44 is (λ e. cc e)), ne_eqb b 34 (other_byte b 34 is (λ e. cc e)), ne_eqb b 13 (other_byte b 13 is (λ e. cc e)), ne_eqb b 10 (other_byte b 10 is (λ e. cc e))) refl

-- a text of such bytes is written as it is
plain_text : (text : List ℕ) → All IsNameByte text → IsPlain text
plain_text text all = list_any_none (needs_byte default_writer) text (All-weaker IsNameByte (λ b. needs_byte default_writer b ≡ false) plain_byte text all)

-- so are numbers
plain_decimal : (n : ℕ) → n < 2 ^ 64 → IsPlain (decimal n)
plain_decimal n small = plain_text (decimal n) (All-decimal n small)

plain_value : (v : Value) → IsWord v → IsPlain (value_text v)
plain_value Bare w = refl
plain_value (Int (pos n)) w = let w : n < 2 ^ 63 = w in plain_decimal n (omega (arith, w))
plain_value (Int (negsuc n)) w = let w : n < 2 ^ 63 = w in plain_decimal (suc n) (omega (arith, w))

plain_delay : (delay : ℕ) → delay ≤ 1000000000000000000 → IsPlain (delay_text delay)
plain_delay zero le = refl
plain_delay (suc n) le = let e = ne_eqb (suc n) 0 (λ z. cc z) in rw e (plain_decimal (suc n) (omega arith))

-- so are names
plain_name : (program : Parts) (n : Name) → IsSound program → IsNameOf program n → IsPlain (name_text program n)
plain_name program (Port p) sound h =
    let named : IsNamed program.names (found.Port p) (name_text program (Port p)) = slice_get-get_or program.names.ports p [] (rw sound.well_named.ports h) in
    plain_text (name_text program (Port p)) (sound.well_named.words (found.Port p) (name_text program (Port p)) named)
plain_name program (Action a) sound h =
    let named : IsNamed program.names (found.Action a) (name_text program (Action a)) = slice_get-get_or program.names.actions a [] (rw sound.well_named.actions h) in
    plain_text (name_text program (Action a)) (sound.well_named.words (found.Action a) (name_text program (Action a)) named)

plain_step : (program : Parts) (s : Step) → IsSound program → StepFits program s → HasWord s → ArePlain (step_fields program s)
plain_step program Start sound fits wide = (refl, (refl, (refl, tt)))
plain_step program (Read n v) sound fits wide = (plain_name program n sound fits, (plain_value v wide, (refl, tt)))
plain_step program (Write n v) sound fits wide = (plain_name program n sound fits, (plain_value v wide, (refl, tt)))
plain_step program (Schedule n v delay) sound fits wide = (plain_name program n sound fits.0, (plain_value v wide, (plain_delay delay fits.1, tt)))
plain_step program Stop sound fits wide = (refl, (refl, (refl, tt)))
plain_step program End sound fits wide = (refl, (refl, (refl, tt)))

plain_event : (s : Step) → IsPlain (word (event_of s))
plain_event Start = refl
plain_event (Read n v) = refl
plain_event (Write n v) = refl
plain_event (Schedule n v delay) = refl
plain_event Stop = refl
plain_event End = refl

plain_row : (program : Parts) (row : Row) → IsSound program → RowFits program row → HasWords row → ArePlain (row_fields program row)
plain_row program row sound fits words =
    let recorded = fits.recorded in
    let reaction = slice_index_or program.names.reactions row.reaction [] in
    let named : IsNamed program.names (found.Reaction row.reaction) reaction = slice_get-get_or program.names.reactions row.reaction [] (rw sound.well_named.reactions fits.reaction) in
    let time = plain_decimal row.tag.time (omega (arith, recorded)) in
    let microstep = plain_decimal row.tag.micro (omega (arith, recorded)) in
    let name = plain_text reaction (sound.well_named.words (found.Reaction row.reaction) reaction named) in
    (plain_event row.step, (plain_decimal row.worker (omega (arith, words)), (time, (microstep, (name, plain_step program row.step sound fits.step words.1)))))

plain_field : (x : List ℕ) → IsPlain x → field_text default_writer x ≡ x
plain_field x p = rw p refl

after_comma : (x : List ℕ) (xs : List (List ℕ)) → ArePlain (x ∷ xs) → fields_text default_writer (x ∷ xs) ≡ 44 ∷ join_with_byte 44 (x ∷ xs)
unfolding fields_text
after_comma x [] p = ap (λ (t : List ℕ). 44 ∷ t) (append-nil (field_text default_writer x) ∙ plain_field x p.0)
after_comma x (y ∷ ys) p =
    let first = plain_field x p.0 in
    let more = after_comma y ys p.1 in
    rw (first, more) refl

line_of : (x y : List ℕ) (ys : List (List ℕ)) → ArePlain (x ∷ y ∷ ys) → row_text default_writer (x ∷ y ∷ ys) ≡ line (x ∷ y ∷ ys)
unfolding is_blank
line_of x y ys p =
    let first = plain_field x p.0 in
    let more = after_comma y ys p.1 in
    rw (first, more) refl

lines_of : (program : Parts) (rows : List Row) → ((k : ℕ) (row : Row) → slice_get rows k ≡ Some row → ArePlain (row_fields program row))
    → concat (map (row_text default_writer) (map (row_fields program) rows)) ≡ concat (map line (map (row_fields program) rows))
lines_of program [] h = refl
lines_of program (r ∷ rs) h =
    let one : row_text default_writer (row_fields program r) ≡ line (row_fields program r) = line_of _ _ _ (h 0 r refl) in
    let more = lines_of program rs (λ k row e. h (suc k) row e) in
    rw (one, more) refl

-- the text of the rows
pub plain_lines : (program : Parts) (rows : List Row) (r : Result (Vec ℕ Global) NoMemory) → IsSound program → RowsFit program rows
    → IfOk r (λ text. text.items ≡ csv_text (written_records program rows)) → OnOk r (AllHaveWords rows) → IfOk r (λ text. text.items ≡ table_text program rows)
plain_lines program rows (Err e) sound fit bytes words = tt
plain_lines program rows (Ok text) sound fit bytes words =
    let rest = lines_of program rows (λ k row e. plain_row program row sound (fit.each k row e) (words k row e)) in
    let first : row_text default_writer header ≡ line header = line_of (codes "event") (codes "worker") (codes "time" ∷ codes "microstep" ∷ codes "reaction" ∷ codes "name" ∷ codes "value" ∷ codes "delay" ∷ []) (refl, (refl, (refl, (refl, (refl, (refl, (refl, (refl, tt)))))))) in
    bytes ∙ ap (λ (t : List ℕ). t ++ concat (map (row_text default_writer) (map (row_fields program) rows))) first ∙ ap (λ (t : List ℕ). line header ++ t) rest
