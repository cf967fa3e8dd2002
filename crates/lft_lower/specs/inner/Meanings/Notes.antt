-- The words of notes on a program, and what it is to say one.
use Rattle.std.specs.Prelude.{◌≡◌, ◌⊎◌, ℕ, List, [], ◌∷◌, ◌++◌, Option, Some, None, bytes_eq, codes, cond, decimal, false, map, slice_get, string_bytes, true}
use Rattle.std.specs.BTreeSet.{contains_text}
use Rattle.lft_whole.specs.{declared.sources.source.SourceFile.SourceFile, Sources.Shown.place_words}
use Rattle.lft_lower.specs.declared.meanings.notes.Notes.{Notes}

-- where a token of a file stands, if there is the file
abbrev pub place_if : Option SourceFile → ℕ → List ℕ
place_if None token = []
place_if (Some file) token = place_words file token

-- how a note on a token of a file begins
abbrev pub note_begin : List SourceFile → ℕ → ℕ → List ℕ
note_begin files file token = codes "note: " ++ place_if (slice_get files file) token ++ codes ": "

-- the sources of a broadcast don't divide its destinations
abbrev pub divide_words : ℕ → ℕ → List ℕ
divide_words left right = (codes "the width on the left, " ++ decimal left) ++ (codes ", doesn't divide the width on the right, " ++ decimal right) ++ codes "."

-- the two sides of a connection differ
abbrev pub widths_differ_words : ℕ → ℕ → List ℕ
widths_differ_words left right = (codes "the widths differ: " ++ decimal left) ++ (codes " on the left, " ++ decimal right) ++ codes " on the right. The rest stays unconnected."

-- which row stands for a timeout of so many nanoseconds
abbrev pub stop_words : ℕ → List ℕ
stop_words stop = (codes "timeout: write the row `stop," ++ decimal stop) ++ codes ",0,,` into the external table."

-- a parameter of the main reactor has its default
abbrev pub default_words : List ℕ → List ℕ
default_words name = codes "the parameter " ++ name ++ codes " of the main reactor has its default here."

-- ---- what is said

-- the lines, in the order in which they were said
abbrev pub noted_lines : Notes → List (List ℕ)
noted_lines notes = map (λ line. string_bytes line) notes.lines.items

-- the line, which wasn't said, stands behind the others and counts as said
abbrev pub AddsLine : List ℕ → Notes → Notes → Type 0
AddsLine line old new = (contains_text old.said line ≡ false) × (new.files ≡ old.files) × (noted_lines new ≡ noted_lines old ++ line ∷ []) × ((other : List ℕ) → contains_text new.said other ≡ cond (bytes_eq line other) true (contains_text old.said other))

-- The line is said; one that was said before isn't said again.
abbrev pub IsSaid : List ℕ → Notes → Notes → Type 0
IsSaid line old new = AddsLine line old new ⊎ ((contains_text old.said line ≡ true) × (new ≡ old))
