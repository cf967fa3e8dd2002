-- What is wrong with a row, in a sentence.
use Rattle.std.specs.Prelude.{ℕ, ◌+◌, List, [], ◌++◌, length, slice_get, option_map, unwrap_or, codes, decimal}
use Rattle.lft_ir.specs.{Parts.Parts, declared.steps.row.{Row.Row, Step.{Step, TheVariants.{Start, Read, Write, Schedule, Stop, End}}}}
use Rattle.lft_ir.specs.Words.Lines.{line_words, capital_line_words, tag_at, reaction_at, worker_at, name_at}
use Rattle.lft_facts.specs.declared.facts.RowFact.{RowFact}
use Rattle.lft_facts.specs.declared.facts.RowFact.TheVariants as row_fact

-- `Line L is at G`
abbrev pub line_is_words : List Row → ℕ → List ℕ
line_is_words t i = capital_line_words i ++ codes " is at " ++ tag_at t i

-- `Line L is at G, and an earlier row is at a greater tag, H.`
abbrev pub late_words : List Row → ℕ → ℕ → List ℕ
late_words t i j = line_is_words t i ++ codes ", and an earlier row is at a greater tag, " ++ tag_at t j ++ codes ".\n"

-- `Line L is at G, after the stop.`
abbrev pub after_stop_words : List Row → ℕ → List ℕ
after_stop_words t i = line_is_words t i ++ codes ", after the stop.\n"

-- `X starts a second time at G, in line L.`
abbrev pub again_words : Parts → List Row → ℕ → List ℕ
again_words program t i = reaction_at program t i ++ codes " starts a second time at " ++ tag_at t i ++ codes ", in " ++ line_words i ++ codes ".\n"

-- `X at G`
abbrev pub run_words : Parts → List Row → ℕ → List ℕ
run_words program t i = reaction_at program t i ++ codes " at " ++ tag_at t i

-- `Worker W starts X at G in line L`
abbrev pub starts_words : Parts → List Row → ℕ → List ℕ
starts_words program t i = codes "Worker " ++ worker_at t i ++ codes " starts " ++ run_words program t i ++ codes " in " ++ line_words i

-- `Worker W starts X at G in line L, while its run of Y at H is open.`
abbrev pub busy_words : Parts → List Row → ℕ → ℕ → List ℕ
busy_words program t i j = starts_words program t i ++ codes ", while its run of " ++ run_words program t j ++ codes " is open.\n"

-- `Worker W has no open run of X at G in line L.`
abbrev pub not_open_words : Parts → List Row → ℕ → List ℕ
not_open_words program t i = codes "Worker " ++ worker_at t i ++ codes " has no open run of " ++ run_words program t i ++ codes " in " ++ line_words i ++ codes ".\n"

-- what a step does with a name
abbrev pub verb : Step → List ℕ
verb (Read n v) = codes " reads "
verb (Write n v) = codes " writes "
verb (Schedule n v d) = codes " schedules "
verb Start = codes " starts "
verb Stop = codes " stops "
verb End = codes " ends "

-- what the row at a place does with a name
abbrev pub verb_at : List Row → ℕ → List ℕ
verb_at t i = unwrap_or (option_map (λ row. verb row.step) (slice_get t i)) []

-- `X writes N in line L`
abbrev pub does_words : Parts → List Row → ℕ → List ℕ
does_words program t i = reaction_at program t i ++ verb_at t i ++ name_at program t i ++ codes " in " ++ line_words i

-- `X writes N in line L ..`, with the rest of a sentence
abbrev pub done_words : Parts → List Row → ℕ → List ℕ → List ℕ
done_words program t i rest = does_words program t i ++ rest

-- `Worker W starts X at G in line L, and no row up to line M ends it.`, where M is the last line
abbrev pub unended_words : Parts → List Row → ℕ → List ℕ
unended_words program t i = starts_words program t i ++ codes ", and no row up to line " ++ decimal (length t + 1) ++ codes " ends it.\n"

-- what is wrong with a row
abbrev pub row_words : Parts → List Row → RowFact → List ℕ
row_words program t (row_fact.Late i j) = late_words t i j
row_words program t (row_fact.AfterStop i) = after_stop_words t i
row_words program t (row_fact.StartsAgain i j) = again_words program t i
row_words program t (row_fact.Busy i j) = busy_words program t i j
row_words program t (row_fact.NotOpen i) = not_open_words program t i
row_words program t (row_fact.NotInput i) = done_words program t i (codes ", which isn't among its inputs.\n")
row_words program t (row_fact.ReadAgain i j) = done_words program t i (codes " a second time.\n")
row_words program t (row_fact.NotEffect i) = done_words program t i (codes ", which it may not.\n")
row_words program t (row_fact.Unended i) = unended_words program t i
