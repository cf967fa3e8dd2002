-- Words of rows: their line, and what stands in them.
use Rattle.std.specs.Prelude.{ℕ, ◌+◌, List, [], ◌++◌, Option, Some, None, slice_get, unwrap_or, option_map, codes, decimal}
use Rattle.lft_ir.specs.{Parts.Parts, declared.{parts.Value.Value, steps.row.{Row.Row, Step.{Step, TheVariants.{Start, Read, Write, Schedule, Stop, End}}}}}
use Rattle.lft_ir.specs.Words.Words.{tag_words, value_words, reaction_words, name_words}

-- the line of the table in which the row at a place stands: line 1 is the header
abbrev pub line_words : ℕ → List ℕ
line_words place = codes "line " ++ decimal (place + 2)

-- `Line` and the number of the row's line
abbrev pub capital_line_words : ℕ → List ℕ
capital_line_words place = codes "Line " ++ decimal (place + 2)

-- the tag of the row at a place
abbrev pub tag_at : List Row → ℕ → List ℕ
tag_at t i = unwrap_or (option_map (λ row. tag_words row.tag) (slice_get t i)) []

-- the value that a step has
abbrev pub value_of : Step → Option Value
value_of (Write n v) = Some v
value_of (Schedule n v d) = Some v
value_of (Read n v) = Some v
value_of Start = None
value_of Stop = None
value_of End = None

-- the value in the row at a place
abbrev pub value_at : List Row → ℕ → List ℕ
value_at t i = unwrap_or (option_map (λ row. value_words (value_of row.step)) (slice_get t i)) []

-- the reaction of the row at a place
abbrev pub reaction_at : Parts → List Row → ℕ → List ℕ
reaction_at program t i = unwrap_or (option_map (λ row. reaction_words program row.reaction) (slice_get t i)) []

-- the worker of the row at a place
abbrev pub worker_at : List Row → ℕ → List ℕ
worker_at t i = unwrap_or (option_map (λ row. decimal row.worker) (slice_get t i)) []

-- the name that a step has
abbrev pub name_of : Parts → Step → List ℕ
name_of program (Write n v) = name_words program n
name_of program (Schedule n v d) = name_words program n
name_of program (Read n v) = name_words program n
name_of program Start = []
name_of program Stop = []
name_of program End = []

-- the name in the row at a place
abbrev pub name_at : Parts → List Row → ℕ → List ℕ
name_at program t i = unwrap_or (option_map (λ row. name_of program row.step) (slice_get t i)) []
