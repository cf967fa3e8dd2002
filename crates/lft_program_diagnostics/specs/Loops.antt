-- The text of reactions that wait for one another.
use Rattle.std.specs.Prelude.{ℕ, ◌==◌, ◌&&◌, Bool, false, List, ◌++◌, Option, Some, None, codes, drop, take, find, zip, flat_map, slice_get, option_and_then}
use Rattle.std.specs.{List.list_any, Option.option_map_or}
use Rattle.lft_ir.specs.{Parts.{Parts, inputs}, declared.parts.{Name.{Name, TheVariants.{Port, Action}}, Port.Port as PortOf, Reaction.Reaction}}
use Rattle.lft_ir.specs.Words.Words.{reaction_words, name_words}

-- the name is of that port
abbrev pub is_port_name : ℕ → Name → Bool
is_port_name p (Port q) = q == p
is_port_name p (Action a) = false

-- the port is among the names
abbrev pub has_port : List Name → ℕ → Bool
has_port names p = list_any (is_port_name p) names

-- the port gets what stands at its origin at once, and the origin is among the effects
abbrev pub is_led : List Name → PortOf → Bool
is_led effects port = (port.shift.time == 0) && (port.shift.steps == 0) && has_port effects port.origin

-- what is written to these effects is read of the name at once
abbrev pub is_fed : Parts → List Name → Name → Bool
is_fed program effects (Port p) = option_map_or (is_led effects) (slice_get program.ports p) false
is_fed program effects (Action a) = false

-- the first input of the reader that the writer writes at once, if it writes one
abbrev pub fed : Parts → Reaction → Reaction → Option Name
fed program writer reader = find (is_fed program writer.effects) (inputs reader)

-- the same of the reactions with these numbers
abbrev pub fed_of : Parts → ℕ → ℕ → Option Name
fed_of program a b = option_and_then (λ writer. option_and_then (fed program writer) (slice_get program.reactions b)) (slice_get program.reactions a)

-- two reactions, and what stands between them
abbrev pub between : Parts → ℕ → List ℕ → ℕ → List ℕ
between program a words b = codes "  " ++ reaction_words program a ++ words ++ reaction_words program b

-- `A writes what B reads of P.`, or `A comes before B in their reactor.`
abbrev pub told_step : Parts → ℕ → ℕ → Option Name → List ℕ
told_step program a b (Some name) = between program a (codes " writes what ") b ++ codes " reads of " ++ name_words program name ++ codes ".\n"
told_step program a b None = between program a (codes " comes before ") b ++ codes " in their reactor.\n"

-- the former where the first reaction writes what the second reads at once, else the latter
abbrev pub step_words : Parts → ℕ → ℕ → List ℕ
step_words program a b = told_step program a b (fed_of program a b)

-- the list with its first item at the end
abbrev pub turned_by_one : List ℕ → List ℕ
turned_by_one xs = drop 1 xs ++ take 1 xs

-- a heading, how each of the reactions comes before the next one and the last one before the first, and a way out
abbrev pub loop_words : Parts → List ℕ → List ℕ
loop_words program reactions =
    codes "Program: these reactions wait for one another at one tag.\n"
    ++ flat_map (λ p. step_words program p.0 p.1) (zip reactions (turned_by_one reactions))
    ++ codes "  A delay on one of these connections, as `after 0`, breaks the loop.\n"
