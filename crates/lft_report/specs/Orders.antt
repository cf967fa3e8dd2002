-- The text of which reaction precedes which.
use Rattle.std.specs.Prelude.{ℕ, List, ◌++◌, slice_get, unwrap_or, option_map, codes}
use Rattle.lft_tag.specs.declared.Tag.{Tag}
use Rattle.lft_ir.specs.{Parts.Parts, Words.{Words.{tag_words, port_words, reaction_words}, Lines.line_words}}

-- the origin of a port
abbrev pub origin_of : Parts → ℕ → ℕ
origin_of program p = unwrap_or (option_map (λ x. x.origin) (slice_get program.ports p)) p

-- `X starts at G in line L, before Y ends in line M.`
abbrev pub early_words : Parts → Tag → ℕ → ℕ → ℕ → ℕ → List ℕ
early_words program g a r start end =
    reaction_words program r ++ codes " starts at " ++ tag_words g ++ codes " in " ++ line_words start
    ++ codes ", before " ++ reaction_words program a ++ codes " ends in " ++ line_words end ++ codes ".\n"

-- `A race: X starts at G in line L, before Y ends in line M.`
abbrev pub early_race_words : Parts → Tag → ℕ → ℕ → ℕ → ℕ → List ℕ
early_race_words program g a r start end = codes "A race: " ++ early_words program g a r start end

-- `A race (rule 9): X starts at G in line L, before Y ends in line M.`
abbrev pub race_words : Parts → Tag → ℕ → ℕ → ℕ → ℕ → List ℕ
race_words program g a r start end = codes "  A race (rule 9): " ++ early_words program g a r start end

-- `Y precedes X:`
abbrev pub precedes_words : Parts → ℕ → ℕ → List ℕ
precedes_words program a r = codes "  " ++ reaction_words program a ++ codes " precedes " ++ reaction_words program r ++ codes ":\n"

-- `X before Y: declared first`
abbrev pub declared_words : Parts → ℕ → ℕ → List ℕ
declared_words program a b = codes "    " ++ reaction_words program a ++ codes " before " ++ reaction_words program b ++ codes ": declared first\n"

-- `X before Y: may write P --> Q`, where P is the origin of Q
abbrev pub feeds_words : Parts → ℕ → ℕ → ℕ → List ℕ
feeds_words program a b p = codes "    " ++ reaction_words program a ++ codes " before " ++ reaction_words program b ++ codes ": may write " ++ port_words program (origin_of program p) ++ codes " --> " ++ port_words program p ++ codes "\n"

-- `X has no run at G, and precedes Y all the same`
abbrev pub passed_by_words : Parts → Tag → ℕ → ℕ → List ℕ
passed_by_words program g r next = codes "    " ++ reaction_words program r ++ codes " has no run at " ++ tag_words g ++ codes ", and precedes " ++ reaction_words program next ++ codes " all the same\n"
