-- The text of facts.
use Rattle.std.specs.Prelude.{ℕ, Bool, List, [], ◌∷◌, ◌++◌, flat_map}
use Rattle.lft_ir.specs.{Parts.Parts, declared.steps.row.Row.Row}
use Rattle.lft_facts.specs.declared.facts.Fact.{Fact}
use Rattle.lft_report.specs.{Quotes.Quoted.quoted_rows, Causes.cause_words, Reasons.reason_words, Reads.inputs_table}
use Rattle.lft_report.specs.{Runs.{trigger_of_words, count_words, absent_words}, Orders.{race_words, precedes_words, declared_words, feeds_words}}
use Rattle.lft_report.specs.{Sentences.sentence, Shortened.shown_part}
use Rattle.lft_facts.specs.declared.facts.Fact.TheVariants as fact

-- what a fact says beside what is wrong
abbrev pub fact_words : Parts → List Row → Fact → List ℕ
fact_words program t (fact.StartsEarly g a r start end) = precedes_words program a r
fact_words program t (fact.Race g a r start end) = race_words program g a r start end ++ precedes_words program a r
fact_words program t (fact.DeclaredFirst a b) = declared_words program a b
fact_words program t (fact.Feeds a b p) = feeds_words program a b p
fact_words program t (fact.NoRun g r) = []
fact_words program t (fact.Runs g r start) = []
fact_words program t (fact.HasTrigger r x) = trigger_of_words program r x
fact_words program t (fact.TriggerCount r count) = count_words program r count
fact_words program t (fact.Untriggered g r k x) = absent_words program g x
fact_words program t (fact.RowIs g r i) = []
fact_words program t (fact.Row f) = []
fact_words program t (fact.Cause c) = cause_words program t c
fact_words program t (fact.Clash g c d) = cause_words program t c ++ cause_words program t d
fact_words program t (fact.Reads g r k n read present) = []
fact_words program t (fact.Reason x) = reason_words program t x

-- what the facts say beside what is wrong, one after another
abbrev pub details : Parts → List Row → List Fact → List ℕ
details program t facts = flat_map (fact_words program t) facts

-- what is printed of a part of the text, behind an empty line, where there is such a part
abbrev pub part : Bool → List ℕ → List ℕ
part all [] = []
part all (byte ∷ bytes) = 10 ∷ shown_part all (byte ∷ bytes)

-- the text of facts: what is wrong, what was read, the rows that they name, and what else they say; of each of the last three all, or the first 60 lines and how many others there are
abbrev pub told : Bool → Parts → List Row → List Fact → List ℕ
told all program t facts = sentence program t facts ++ part all (inputs_table program facts) ++ part all (quoted_rows program t facts) ++ part all (details program t facts)
