-- What is wrong, in a sentence.
use Rattle.std.specs.Prelude.{ℕ, List, [], ◌++◌, flat_map, codes}
use Rattle.lft_tag.specs.declared.Tag.{Tag}
use Rattle.lft_ir.specs.{Parts.Parts, declared.steps.row.Row.Row, Words.Words.{tag_words, port_words, action_words}}
use Rattle.lft_facts.specs.declared.facts.{Cause.Cause, Fact.Fact}
use Rattle.lft_report.specs.{Rows.row_words, Runs.{no_run_words, runs_at_words}, Orders.early_race_words}
use Rattle.lft_facts.specs.declared.facts.Cause.TheVariants as cause
use Rattle.lft_facts.specs.declared.facts.Fact.TheVariants as fact

-- ` has more than one event at G, which is outside the profile.`
abbrev pub more_words : Tag → List ℕ
more_words g = codes " has more than one event at " ++ tag_words g ++ codes ", which is outside the profile.\n"

-- the same behind the name of a port or an action
abbrev pub port_more_words : Parts → Tag → ℕ → List ℕ
port_more_words program g p = port_words program p ++ more_words g

abbrev pub action_more_words : Parts → Tag → ℕ → List ℕ
action_more_words program g a = action_words program a ++ more_words g

-- what is said of two events by the cause of one of them
abbrev pub clash_words : Parts → Cause → List ℕ
clash_words program (cause.Written g p i) = port_more_words program g p
clash_words program (cause.Scheduled g a i) = action_more_words program g a
clash_words program (cause.Given g a i) = action_more_words program g a
clash_words program (cause.AtStartup g) = []
clash_words program (cause.AtShutdown g) = []
clash_words program (cause.Fires g n count) = []

-- what a fact says of what is wrong
abbrev pub head_words : Parts → List Row → Fact → List ℕ
head_words program t (fact.Row f) = row_words program t f
head_words program t (fact.Clash g c d) = clash_words program c
head_words program t (fact.NoRun g r) = no_run_words program g r
head_words program t (fact.Runs g r start) = runs_at_words program g r start
head_words program t (fact.StartsEarly g a r start end) = early_race_words program g a r start end
head_words program t _ = []

-- what the facts say of what is wrong
abbrev pub sentence : Parts → List Row → List Fact → List ℕ
sentence program t facts = flat_map (head_words program t) facts
