-- The text of runs beside a missing one, and of where the trace ends.
use Rattle.std.specs.Prelude.{ℕ, List, ◌++◌, codes}
use Rattle.lft_tag.specs.declared.Tag.{Tag}
use Rattle.lft_ir.specs.{Parts.Parts, Words.{Words.{tag_words, reaction_words}, Lines.line_words}}

-- `X has no run in the trace.`
abbrev pub never_words : Parts → ℕ → List ℕ
never_words program r = codes "  " ++ reaction_words program r ++ codes " has no run in the trace.\n"

-- `Its run just before is at H, from line L on.`
abbrev pub run_before_words : Tag → ℕ → List ℕ
run_before_words h start = codes "  Its run just before is at " ++ tag_words h ++ codes ", from " ++ line_words start ++ codes " on.\n"

-- `Its run just after is at H, from line L on.`
abbrev pub run_after_words : Tag → ℕ → List ℕ
run_after_words h start = codes "  Its run just after is at " ++ tag_words h ++ codes ", from " ++ line_words start ++ codes " on.\n"

-- `The last row of the trace is line L, at G; the stop is S.`
abbrev pub last_row_words : ℕ → Tag → Tag → List ℕ
last_row_words i g s = codes "  The last row of the trace is " ++ line_words i ++ codes ", at " ++ tag_words g ++ codes "; the stop is " ++ tag_words s ++ codes ".\n"
