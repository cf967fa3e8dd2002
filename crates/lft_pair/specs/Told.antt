-- The text of contrasts.
use Rattle.std.specs.Prelude.{ℕ, List, [], ◌∷◌, ◌++◌, Option, length, max, flat_map, codes, decimal}
use Rattle.lft_tag.specs.declared.Tag.{Tag}
use Rattle.lft_ir.specs.{Parts.Parts, declared.parts.{Name.Name, Value.Value}}
use Rattle.lft_ir.specs.Words.{Words.{tag_words, value_words, reaction_words, name_words}, Columns.padded, Lines.line_words}
use Rattle.lft_pair.specs.{declared.contrasting.contrasts.Contrast.Contrast, Words.{instance_words, effect_words, first_words, second_words}}
use Rattle.lft_pair.specs.declared.contrasting.contrasts.Contrast.TheVariants as contrast

-- the greatest length of some words of contrasts, and at least so many
abbrev pub widest : (Contrast → List ℕ) → ℕ → List Contrast → ℕ
widest words least [] = least
widest words least (c ∷ cs) = widest words (max least (length (words c))) cs

-- a line of the table
abbrev pub contrast_row_words : Parts → ℕ → ℕ → Contrast → List ℕ
contrast_row_words program e f c = codes "  " ++ padded e (effect_words program c) ++ codes "  " ++ padded f (first_words c) ++ codes "  " ++ second_words c ++ codes "\n"

-- an empty line, and `It starts in line L of the first trace and in line M of the second.`
abbrev pub two_starts_words : ℕ → ℕ → List ℕ
two_starts_words first second = codes "\n  It starts in " ++ line_words first ++ codes " of the first trace and in " ++ line_words second ++ codes " of the second.\n"

-- `In both it read N: V`
abbrev pub read_words : Parts → Name → Option Value → List ℕ
read_words program n read = codes "  In both it read " ++ name_words program n ++ codes ": " ++ value_words read ++ codes "\n"

-- `Earlier runs of I, with equal inputs in both: C`
abbrev pub earlier_words : Parts → ℕ → ℕ → List ℕ
earlier_words program instance count = codes "  Earlier runs of " ++ instance_words program instance ++ codes ", with equal inputs in both: " ++ decimal count ++ codes "\n"

-- `Runs at earlier tags, the same in both: C`
abbrev pub earlier_runs_words : ℕ → List ℕ
earlier_runs_words count = codes "  Runs at earlier tags, the same in both: " ++ decimal count ++ codes "\n"

-- the text of a contrast, where the first two columns of the table have these widths
abbrev pub contrast_words : Parts → ℕ → ℕ → Contrast → List ℕ
contrast_words program e f (contrast.Written p first second) = contrast_row_words program e f (contrast.Written p first second)
contrast_words program e f (contrast.Scheduled a k first second) = contrast_row_words program e f (contrast.Scheduled a k first second)
contrast_words program e f (contrast.Requested first second) = contrast_row_words program e f (contrast.Requested first second)
contrast_words program e f (contrast.Starts first second) = two_starts_words first second
contrast_words program e f (contrast.Read k n read) = read_words program n read
contrast_words program e f (contrast.Earlier instance count) = earlier_words program instance count
contrast_words program e f (contrast.Before count) = earlier_runs_words count

-- `X at G answers otherwise in the two traces.`, an empty line, and the head of the table
abbrev pub heading_words : Parts → Tag → ℕ → ℕ → ℕ → List ℕ
heading_words program g r e f = reaction_words program r ++ codes " at " ++ tag_words g ++ codes " answers otherwise in the two traces.\n\n  " ++ padded e (codes "effect") ++ codes "  " ++ padded f (codes "first") ++ codes "  second\n"

-- the heading, and the text of each contrast
abbrev pub told_in : Parts → Tag → ℕ → ℕ → ℕ → List Contrast → List ℕ
told_in program g r e f contrasts = heading_words program g r e f ++ flat_map (contrast_words program e f) contrasts

-- the text of the contrasts, in columns as wide as their words
abbrev pub told_contrasts : Parts → Tag → ℕ → List Contrast → List ℕ
told_contrasts program g r contrasts = told_in program g r (widest (effect_words program) 6 contrasts) (widest first_words 5 contrasts) contrasts
