-- The words of a place of a text, and of the line that is quoted with a mark below it.
use Rattle.std.specs.Prelude.{ℕ, Bool, ◌-◌, ◌==◌, ◌&&◌, not, if◌then◌else◌, nat_lt, nat_le, ◌||◌, List, [], ◌∷◌, ◌++◌, Option, Some, None, length, take, slice_range, count_by, flat_map, replicate, min, max, chars, codes, decimal}
use Rattle.std.specs.{Char.{is_control, is_ascii_whitespace, encode_utf8, Escape.escape_unicode}, List.suffix_len, Str.Lossy.utf8_lossy}
use Rattle.lft_ir.specs.Words.Columns.{blanks}
use Rattle.lft_text_diagnostics.specs.{Places.begins_letter, declared.place.LineColumn.LineColumn}

-- A format character: U+200B to U+200F, U+2028 to U+202E, U+2060 to U+206F, U+FEFF, or from U+E0000 on.
abbrev pub is_format : ℕ → Bool
is_format c = nat_le 8203 c && nat_le c 8207 || nat_le 8232 c && nat_le c 8238 || nat_le 8288 c && nat_le c 8303 || (c == 65279) || nat_le 917504 c

-- A letter as it is shown: a format character by its escape, and for a control character that isn't a tab the replacement character.
abbrev pub letter_shown : ℕ → List ℕ
letter_shown c = if is_format c then escape_unicode c else if is_control c && not (c == 9) then 65533 ∷ [] else c ∷ []

-- Bytes of a text as they are quoted: what is no UTF-8 is replaced, and each letter is shown.
abbrev pub quoted : List ℕ → List ℕ
quoted bytes = flat_map (λ c. flat_map encode_utf8 (letter_shown c)) (chars (utf8_lossy bytes))

-- How bytes of a token are named: as they are quoted, or by `this`, where there are more than 40.
abbrev pub spelled_bytes : List ℕ → List ℕ
spelled_bytes bytes = if nat_lt 40 (length bytes) then codes "this" else codes "`" ++ quoted bytes ++ codes "`"

-- What stands below a byte where a mark follows: a tab below a tab, and a blank below the first byte of another letter.
abbrev pub blank_below : ℕ → List ℕ
blank_below b = if b == 9 then 9 ∷ [] else if begins_letter b then 32 ∷ [] else []

-- What stands below bytes, so that a mark comes below what follows them.
abbrev pub blanks_below : List ℕ → List ℕ
blanks_below bytes = flat_map blank_below bytes

-- A caret for each letter of the bytes, and one at least.
abbrev pub marks : List ℕ → List ℕ
marks bytes = replicate (max (count_by begins_letter bytes) 1) 94

-- What stands before a quoted line: an empty line, and the number of the line.
abbrev pub margin : ℕ → List ℕ
margin line = codes "\n  " ++ decimal line ++ codes " | "

-- As many blanks as that has letters, in a new line.
abbrev pub blank_margin : ℕ → List ℕ
blank_margin line = codes "\n     " ++ blanks (length (decimal line))

-- Bytes without the blanks and line ends behind them.
abbrev pub trimmed : List ℕ → List ℕ
trimmed bytes = take (length bytes - suffix_len is_ascii_whitespace bytes) bytes

-- A line of that number, and below it a mark at the bytes that follow those before.
abbrev pub quote : ℕ → List ℕ → List ℕ → List ℕ → List ℕ
quote number line before marked = margin number ++ quoted line ++ (blank_margin number ++ blanks_below (quoted before) ++ marks (quoted marked)) ++ codes "\n"

-- The line of a place, and below it a mark at the bytes from start up to end that are in the line; nothing where the line has more than 200 bytes.
abbrev pub marked_line : List ℕ → LineColumn → ℕ → ℕ → List ℕ
marked_line t place start end =
    if nat_lt 200 (place.end - place.start) then []
    else quote place.line (trimmed (slice_range t place.start place.end)) (slice_range t place.start start) (slice_range t start (min end place.end))

-- `Program, line L, column C: `
abbrev pub program_place_words : LineColumn → List ℕ
program_place_words place = codes "Program, line " ++ decimal place.line ++ codes ", column " ++ decimal place.column ++ codes ": "

-- A way out in a line of its own, where there is one.
abbrev pub way_through_words : Option (List ℕ) → List ℕ
way_through_words None = []
way_through_words (Some words) = codes "  " ++ words ++ codes "\n"
