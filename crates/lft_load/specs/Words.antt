-- Words of the lines that are printed.
use Rattle.std.specs.Prelude.{ℕ, List, [], ◌∷◌, ◌++◌, ◌||◌, if◌then◌else◌, chars, codes, decimal, flat_map}
use Rattle.std.specs.Char.{encode_utf8, is_control, Escape.escape_default}
use Rattle.lft_ir.specs.{Parts.Parts, Words.Words.reaction_words}
use Rattle.lft_text_diagnostics.specs.Quotes.{is_format}

-- a word with its number
abbrev pub field : List ℕ → ℕ → List ℕ
field word number = word ++ decimal number

-- the name of a reaction after a space
abbrev pub spaced_name : Parts → ℕ → List ℕ
spaced_name program r = codes " " ++ reaction_words program r

-- the names of reactions, with a space between two
abbrev pub names_words : Parts → List ℕ → List ℕ
names_words program [] = []
names_words program (r ∷ rs) = reaction_words program r ++ flat_map (spaced_name program) rs

-- a letter as it stands in one line: a control or format character by its escape
abbrev pub in_line : ℕ → List ℕ
in_line c = if is_control c || is_format c then escape_default c else c ∷ []

-- a path in one line: each letter, a control or format character by its escape
abbrev pub one_line : List ℕ → List ℕ
one_line path = flat_map (λ c. flat_map encode_utf8 (in_line c)) (chars path)
