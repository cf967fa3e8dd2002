-- The text of what a reader asks next.
use Rattle.std.specs.Prelude.{ℕ, List, [], ◌∷◌, ◌++◌, flat_map, codes}
use Rattle.lft_tag.specs.declared.Tag.{Tag}
use Rattle.lft_ir.specs.{Parts.Parts, declared.{parts.Name.Name, steps.row.Row.Row}}
use Rattle.lft_ir.specs.Words.{Words.{tag_words, port_words, reaction_words, name_words}, Lines.{line_words, capital_line_words, tag_at, worker_at}}
use Rattle.lft_model.specs.Runs.{inputs_of, effects_of}
use Rattle.lft_facts.specs.declared.facts.{ThingKind.ThingKind, Reason.Reason}
use Rattle.lft_report.specs.{Rows.run_words, Neighbours.{never_words, run_before_words, run_after_words, last_row_words}, Orders.passed_by_words}
use Rattle.lft_report.specs.Ways.{nearest_words}
use Rattle.lft_facts.specs.declared.facts.ThingKind.TheVariants as kind
use Rattle.lft_facts.specs.declared.facts.Reason.TheVariants as reason

-- `The stop is G, as the external inputs say.`
abbrev pub given_stop_words : Tag → List ℕ
given_stop_words g = codes "  The stop is " ++ tag_words g ++ codes ", as the external inputs say.\n"

-- `The stop is G: line L asks for it at H, one microstep before.`
abbrev pub asked_stop_words : List Row → Tag → ℕ → List ℕ
asked_stop_words t g i = codes "  The stop is " ++ tag_words g ++ codes ": " ++ line_words i ++ codes " asks for it at " ++ tag_at t i ++ codes ", one microstep before.\n"

-- `Worker W ..`, the worker of the row at place i, with the line of the one at place j
abbrev pub in_line_words : List Row → ℕ → List ℕ → ℕ → List ℕ
in_line_words t i does j = codes "  Worker " ++ worker_at t i ++ does ++ line_words j ++ codes ".\n"

-- `Worker W has its run of X at G open since line L.`
abbrev pub has_open_words : Parts → List Row → ℕ → List ℕ
has_open_words program t j = codes "  Worker " ++ worker_at t j ++ codes " has its run of " ++ run_words program t j ++ codes " open since " ++ line_words j ++ codes ".\n"

-- names, each behind a blank
abbrev pub spaced : Parts → Name → List ℕ
spaced program n = codes " " ++ name_words program n

-- the names, or that there is none
abbrev pub listed_names : Parts → List Name → List ℕ
listed_names program [] = codes " none"
listed_names program (n ∷ ns) = flat_map (spaced program) (n ∷ ns)

-- `Inputs of X: N M`
abbrev pub inputs_words : Parts → ℕ → List ℕ
inputs_words program r = codes "  Inputs of " ++ reaction_words program r ++ codes ":" ++ listed_names program (inputs_of program r) ++ codes "\n"

-- `Effects of X: N M`
abbrev pub effects_words : Parts → ℕ → List ℕ
effects_words program r = codes "  Effects of " ++ reaction_words program r ++ codes ":" ++ listed_names program (effects_of program r) ++ codes "\n"

-- what a thing is, and what is done with it
abbrev pub kind_words : ThingKind → List ℕ
kind_words kind.Port = codes " is a port: it is written, and not scheduled.\n"
kind_words kind.Logical = codes " is a logical action: it is scheduled, and not written.\n"
kind_words kind.Physical = codes " is a physical action: its events are external inputs.\n"

-- `N is a ..`
abbrev pub named_kind_words : Parts → Name → ThingKind → List ℕ
named_kind_words program n k = codes "  " ++ name_words program n ++ kind_words k

-- `P is fed by Q: a write names that.`
abbrev pub fed_words : Parts → ℕ → ℕ → List ℕ
fed_words program p o = codes "  " ++ port_words program p ++ codes " is fed by " ++ port_words program o ++ codes ": a write names that.\n"

-- `Worker W ends X at G in line L.`
abbrev pub ends_other_words : Parts → List Row → ℕ → List ℕ
ends_other_words program t k = codes "  Worker " ++ worker_at t k ++ codes " ends " ++ run_words program t k ++ codes " in " ++ line_words k ++ codes ".\n"

-- `The last row of worker W is line L.`
abbrev pub last_of_worker_words : List Row → ℕ → ℕ → List ℕ
last_of_worker_words t i k = codes "  The last row of worker " ++ worker_at t i ++ codes " is " ++ line_words k ++ codes ".\n"

-- `Line L is the first at a later tag, H.`
abbrev pub later_words : List Row → ℕ → List ℕ
later_words t k = codes "  " ++ capital_line_words k ++ codes " is the first at a later tag, " ++ tag_at t k ++ codes ".\n"

-- the text of a reason
abbrev pub reason_words : Parts → List Row → Reason → List ℕ
reason_words program t (reason.Nearest g x h) = nearest_words program x g h
reason_words program t (reason.PassedBy g r next) = passed_by_words program g r next
reason_words program t (reason.NeverRuns r) = never_words program r
reason_words program t (reason.RunBefore g r h start) = run_before_words h start
reason_words program t (reason.RunAfter g r h start) = run_after_words h start
reason_words program t (reason.LastRow i g s) = last_row_words i g s
reason_words program t (reason.StopGiven g) = given_stop_words g
reason_words program t (reason.StopAsked g i) = asked_stop_words t g i
reason_words program t (reason.EndedIn i k) = in_line_words t i (codes " ended that run in ") k
reason_words program t (reason.HasOpen i j) = has_open_words program t j
reason_words program t (reason.OpenOn i j) = in_line_words t j (codes " has that run open since ") j
reason_words program t (reason.StartsIn i j) = in_line_words t j (codes " starts that run later, in ") j
reason_words program t (reason.Inputs r) = inputs_words program r
reason_words program t (reason.Effects r) = effects_words program r
reason_words program t (reason.KindOf n k) = named_kind_words program n k
reason_words program t (reason.FedBy p o) = fed_words program p o
reason_words program t (reason.EndsOther i k) = ends_other_words program t k
reason_words program t (reason.LastOfWorker i k) = last_of_worker_words t i k
reason_words program t (reason.OpenAcross i j k) = has_open_words program t j ++ later_words t k
reason_words program t (reason.LaterTag i k) = later_words t k
