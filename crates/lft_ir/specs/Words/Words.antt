-- Words of the text.
use Rattle.std.specs.Prelude.{ℕ, ◌/◌, ◌%◌, List, [], ◌++◌, Option, Some, None, slice_get, unwrap_or, codes, decimal, nat_eq, if◌then◌else◌}
use Rattle.std.specs.Fmt.{signed_decimal}
use Rattle.lft_tag.specs.declared.Tag.{Tag}
use Rattle.lft_ir.specs.Parts.{Parts}
use Rattle.lft_ir.specs.declared.parts.{Name.{Name, TheVariants.{Port, Action}}, Trigger.{Trigger, TheVariants.{Startup, Shutdown, Timer, On}}}
use Rattle.lft_ir.specs.declared.parts.Value.{Value, TheVariants.{Bare, Int}}

-- a time in the greatest unit that divides it, `0` for none
abbrev pub time_words : ℕ → List ℕ
time_words time =
    if nat_eq time 0 then codes "0"
    else if nat_eq (time % 1000000000) 0 then decimal (time / 1000000000) ++ codes " s"
    else if nat_eq (time % 1000000) 0 then decimal (time / 1000000) ++ codes " ms"
    else if nat_eq (time % 1000) 0 then decimal (time / 1000) ++ codes " us"
    else decimal time ++ codes " ns"

-- a tag as `(5 ms, 1)`
abbrev pub tag_words : Tag → List ℕ
tag_words g = codes "(" ++ time_words g.time ++ codes ", " ++ decimal g.micro ++ codes ")"

-- a value: `nothing` for none, `bare` for an event without one
abbrev pub value_words : Option Value → List ℕ
value_words None = codes "nothing"
value_words (Some Bare) = codes "bare"
value_words (Some (Int n)) = signed_decimal n

-- the name of a port; nothing where the number names none
abbrev pub port_words : Parts → ℕ → List ℕ
port_words program p = unwrap_or (slice_get program.names.ports p) []

-- the name of an action; nothing where the number names none
abbrev pub action_words : Parts → ℕ → List ℕ
action_words program a = unwrap_or (slice_get program.names.actions a) []

-- the name of a timer; nothing where the number names none
abbrev pub timer_words : Parts → ℕ → List ℕ
timer_words program n = unwrap_or (slice_get program.names.timers n) []

-- the name of a reaction; nothing where the number names none
abbrev pub reaction_words : Parts → ℕ → List ℕ
reaction_words program r = unwrap_or (slice_get program.names.reactions r) []

-- the name of a port or action
abbrev pub name_words : Parts → Name → List ℕ
name_words program (Port p) = port_words program p
name_words program (Action a) = action_words program a

-- a trigger by its name
abbrev pub trigger_words : Parts → Trigger → List ℕ
trigger_words program Startup = codes "startup"
trigger_words program Shutdown = codes "shutdown"
trigger_words program (Timer n) = codes "timer " ++ timer_words program n
trigger_words program (On n) = name_words program n
