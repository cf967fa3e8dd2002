-- The text of where delays lead, and of what is nearest.
use Rattle.std.specs.Prelude.{ℕ, List, ◌++◌, Option, Some, None, slice_get, unwrap_or, option_map, option_and_then, codes, nat_lt, if◌then◌else◌}
use Rattle.lft_tag.specs.declared.Tag.{Tag}
use Rattle.lft_ir.specs.Parts.{Parts}
use Rattle.lft_ir.specs.declared.parts.{Port.Port as PortOf, Trigger.{Trigger, TheVariants.{Startup, Shutdown, Timer, On}}}
use Rattle.lft_ir.specs.declared.steps.row.{Row.Row, Step.{Step, TheVariants.{Start, Read, Write, Schedule, Stop, End}}}
use Rattle.lft_ir.specs.Words.Words.{time_words, tag_words, trigger_words}

-- the delay of the connection into a port, if it has one
abbrev pub delay_into : Parts → ℕ → Option ℕ
delay_into program p = option_and_then (λ (port : PortOf). option_and_then (λ source. source.delay) port.source) (slice_get program.ports p)

-- an arrow, with the delay of the connection that it stands for
abbrev pub arrow_words : Option ℕ → List ℕ
arrow_words None = codes " --> "
arrow_words (Some delay) = codes " --" ++ time_words delay ++ codes "--> "

-- the least delay of an action
abbrev pub least_delay : Parts → ℕ → ℕ
least_delay program a = unwrap_or (option_map (λ x. x.min_delay) (slice_get program.actions a)) 0

-- the extra delay of a step
abbrev pub extra_of : Step → ℕ
extra_of (Schedule n v d) = d
extra_of Start = 0
extra_of (Read n v) = 0
extra_of (Write n v) = 0
extra_of Stop = 0
extra_of End = 0

-- the extra delay in the row at a place
abbrev pub extra_at : List Row → ℕ → ℕ
extra_at t i = unwrap_or (option_map (λ row. extra_of row.step) (slice_get t i)) 0

-- `least delay D + extra delay E --> G`
abbrev pub delays_words : Parts → List Row → Tag → ℕ → ℕ → List ℕ
delays_words program t g a i = codes "    least delay " ++ time_words (least_delay program a) ++ codes " + extra delay " ++ time_words (extra_at t i) ++ codes " --> " ++ tag_words g ++ codes "\n"

-- on which side of g the tag h is
abbrev pub side_words : Tag → Tag → List ℕ
side_words g h =
    if nat_lt h.time g.time then codes "before"
    else if nat_lt g.time h.time then codes "after"
    else if nat_lt h.micro g.micro then codes "before"
    else codes "after"

-- what a trigger has where it is present
abbrev pub happening : Trigger → List ℕ
happening (Timer n) = codes "firing of "
happening (On n) = codes "event of "
happening Startup = codes "event of "
happening Shutdown = codes "event of "

-- `The nearest event of X `
abbrev pub nearest_of : Parts → Trigger → List ℕ
nearest_of program x = codes "    The nearest " ++ happening x ++ trigger_words program x ++ codes " "

-- `The nearest event of X before it is at H.`
abbrev pub nearest_words : Parts → Trigger → Tag → Tag → List ℕ
nearest_words program x g h = nearest_of program x ++ side_words g h ++ codes " it is at " ++ tag_words h ++ codes ".\n"
