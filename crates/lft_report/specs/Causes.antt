-- The text of why something is present.
use Rattle.std.specs.Prelude.{ℕ, List, ◌++◌, slice_get, unwrap_or, option_map, codes, decimal}
use Rattle.lft_tag.specs.declared.Tag.{Tag}
use Rattle.lft_ir.specs.{Parts.Parts, declared.steps.row.Row.Row}
use Rattle.lft_ir.specs.Words.{Words.{time_words, tag_words, port_words, action_words, timer_words}, Lines.{line_words, tag_at, value_at}}
use Rattle.lft_facts.specs.declared.facts.Cause.{Cause}
use Rattle.lft_report.specs.{Orders.origin_of, Ways.delays_words, Hops.way_at}
use Rattle.lft_facts.specs.declared.facts.Cause.TheVariants as cause

-- `startup is present at (0, 0).`
abbrev pub startup_words : Tag → List ℕ
startup_words g = codes "  startup is present at " ++ tag_words g ++ codes ".\n"

-- `shutdown is present at the stop, G.`
abbrev pub shutdown_words : Tag → List ℕ
shutdown_words g = codes "  shutdown is present at the stop, " ++ tag_words g ++ codes ".\n"

-- offset and period of a timer
abbrev pub offset_of : Parts → ℕ → ℕ
offset_of program n = unwrap_or (option_map (λ x. x.offset) (slice_get program.timers n)) 0

abbrev pub period_of : Parts → ℕ → ℕ
period_of program n = unwrap_or (option_map (λ x. x.period) (slice_get program.timers n)) 0

-- `: offset O, plus N times the period P.`
abbrev pub periods_words : Parts → ℕ → ℕ → List ℕ
periods_words program n count = codes ": offset " ++ time_words (offset_of program n) ++ codes ", plus " ++ decimal count ++ codes " times the period " ++ time_words (period_of program n) ++ codes ".\n"

-- `timer T fires at G: offset O, plus N times the period P.`
abbrev pub fires_words : Parts → Tag → ℕ → ℕ → List ℕ
fires_words program g n count = codes "  timer " ++ timer_words program n ++ codes " fires at " ++ tag_words g ++ periods_words program n count

-- ` gets V at G:`, where the row at a place has V
abbrev pub gets_words : List Row → Tag → ℕ → List ℕ
gets_words t g i = codes " gets " ++ value_at t i ++ codes " at " ++ tag_words g ++ codes ":\n    "

-- the line of the last write of the origin of a port
abbrev pub last_write_words : Parts → List Row → ℕ → ℕ → List ℕ
last_write_words program t p i = line_words i ++ codes " is the last write of " ++ port_words program (origin_of program p) ++ codes " at " ++ tag_at t i ++ codes "\n"

-- `P gets V at G:`, the line of the last write of its origin, and the way from there
abbrev pub written_words : Parts → List Row → Tag → ℕ → ℕ → List ℕ
written_words program t g p i = codes "  " ++ port_words program p ++ gets_words t g i ++ last_write_words program t p i ++ way_at program t p i

-- the line that schedules an action
abbrev pub schedules_words : List Row → ℕ → List ℕ
schedules_words t i = line_words i ++ codes " schedules it at " ++ tag_at t i ++ codes "\n"

-- `A gets V at G:`, the line that schedules it, and the delays that lead there
abbrev pub scheduled_words : Parts → List Row → Tag → ℕ → ℕ → List ℕ
scheduled_words program t g a i = codes "  " ++ action_words program a ++ gets_words t g i ++ schedules_words t i ++ delays_words program t g a i

-- `A has an event at G, from the external inputs.`
abbrev pub given_words : Parts → Tag → ℕ → List ℕ
given_words program g a = codes "  " ++ action_words program a ++ codes " has an event at " ++ tag_words g ++ codes ", from the external inputs.\n"

-- the text of why something is present
abbrev pub cause_words : Parts → List Row → Cause → List ℕ
cause_words program t (cause.AtStartup g) = startup_words g
cause_words program t (cause.AtShutdown g) = shutdown_words g
cause_words program t (cause.Fires g n count) = fires_words program g n count
cause_words program t (cause.Written g p i) = written_words program t g p i
cause_words program t (cause.Scheduled g a i) = scheduled_words program t g a i
cause_words program t (cause.Given g a i) = given_words program g a
