-- The text of the way of an event: the last connections from the origin of a port to the port.
use Rattle.std.specs.Prelude.{ℕ, zero, suc, List, [], ◌∷◌, ◌++◌, Option, length, take, slice_get, unwrap_or, option_map, option_and_then, codes, nat_lt, if◌then◌else◌}
use Rattle.lft_tag.specs.{declared.Tag.Tag, Shifts.shifted}
use Rattle.lft_ir.specs.{Parts.Parts, declared.{parts.Port.Port as PortOf, steps.row.Row.Row}, Words.Words.{tag_words, port_words}}
use Rattle.lft_report.specs.Ways.{delay_into, arrow_words}

-- the port from which the connection into a port comes, if there is one
abbrev pub source_into : Parts → ℕ → Option ℕ
source_into program p = option_and_then (λ (port : PortOf). option_map (λ source. source.port) port.source) (slice_get program.ports p)

-- the ports into which the connections on the way to a port lead, the last first, and at most so many
abbrev pub way_back : Parts → ℕ → ℕ → List ℕ
way_back program zero p = []
way_back program (suc n) p = unwrap_or (option_map (λ (q : ℕ). p ∷ way_back program n q) (source_into program p)) []

-- the tag at which a port gets what is written to its origin at g
abbrev pub reached : Parts → Tag → ℕ → Tag
reached program g p = unwrap_or (option_map (λ (port : PortOf). shifted g (port.shift.time, port.shift.steps)) (slice_get program.ports p)) g

-- `P H`, where P gets at H what is written to its origin at g
abbrev pub end_words : Parts → Tag → ℕ → List ℕ
end_words program g p = port_words program p ++ codes " " ++ tag_words (reached program g p)

-- `P G --D--> Q H`, the connection into Q
abbrev pub hop_words : Parts → Tag → ℕ → List ℕ
hop_words program g q = codes "    " ++ end_words program g (unwrap_or (source_into program q) q) ++ arrow_words (delay_into program q) ++ end_words program g q ++ codes "\n"

-- what is said of each number, the last first
abbrev pub told_back : (ℕ → List ℕ) → List ℕ → List ℕ
told_back says [] = []
told_back says (p ∷ ps) = told_back says ps ++ says p

-- all of some connections, or of more than 20 the last 20
abbrev pub hops_words : Parts → Tag → List ℕ → List ℕ
hops_words program g ps =
    if nat_lt 20 (length ps) then codes "    ..\n" ++ told_back (hop_words program g) (take 20 ps)
    else told_back (hop_words program g) ps

-- the way to a port of what is written to its origin at g
abbrev pub way_words : Parts → Tag → ℕ → List ℕ
way_words program g p = hops_words program g (way_back program 21 p)

-- the way to a port of what the row at a place writes to its origin
abbrev pub way_at : Parts → List Row → ℕ → ℕ → List ℕ
way_at program t p i = unwrap_or (option_map (λ row. way_words program row.tag p) (slice_get t i)) []
