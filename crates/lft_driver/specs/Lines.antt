-- The lines that are printed.
use Rattle.std.specs.Prelude.{ℕ, List, [], ◌++◌, Option, Some, None, codes, nat_eq, if◌then◌else◌}
use Rattle.lft_ir.specs.{Parts.Parts, Words.Words.reaction_words}
use Rattle.lft_model.specs.declared.breach.Breach.{Breach}
use Rattle.lft_check.specs.declared.verdict.Verdict.{Verdict, TheVariants.{Accepted, Broken}}
use Rattle.lft_tag.specs.declared.Tag.{Tag}
use Rattle.lft_load.specs.Words.{field}
use Rattle.lft_driver.specs.declared.paired.Paired.{Paired}
use Rattle.lft_driver.specs.declared.paired.Paired.TheVariants as paired

-- the name of a rule
abbrev pub rule_name : ℕ → List ℕ
rule_name rule =
    if nat_eq rule 1 then codes "late"
    else if nat_eq rule 2 then codes "after-stop"
    else if nat_eq rule 3 then codes "order"
    else if nat_eq rule 4 then codes "undeclared"
    else if nat_eq rule 5 then codes "unended"
    else if nat_eq rule 6 then codes "collision"
    else if nat_eq rule 7 then codes "not-run"
    else if nat_eq rule 8 then codes "not-triggered"
    else if nat_eq rule 9 then codes "too-early"
    else if nat_eq rule 10 then codes "wrong-read"
    else []

-- the line of the table, where a rule is broken at a row
abbrev pub broken_row_words : ℕ → List ℕ
broken_row_words row = if nat_eq row 0 then [] else field (codes " line=") row

-- the reaction that breaks a rule, by its name; a collision is of none
abbrev pub breaking_reaction_words : Parts → Option ℕ → List ℕ
breaking_reaction_words program None = codes " (outside the profile)"
breaking_reaction_words program (Some r) = codes " reaction=" ++ reaction_words program r

-- a broken rule: its number and name, the line or none, the tag, and the reaction
abbrev pub breach_words : Parts → Breach → List ℕ
breach_words program b =
    field (codes "broken rule=") b.rule ++ codes " " ++ rule_name b.rule ++ broken_row_words b.row
    ++ field (codes " time=") b.tag.time ++ field (codes " microstep=") b.tag.micro ++ breaking_reaction_words program b.reaction ++ codes "\n"

-- a trace without a breach: how many runs and how many tags with a run
abbrev pub accepted_words : ℕ → ℕ → List ℕ
accepted_words runs tags = field (codes "accepted runs=") runs ++ field (codes " tags=") tags ++ codes "\n"

-- the line of a verdict
abbrev pub line_of : Parts → Verdict → List ℕ
line_of program (Accepted runs tags) = accepted_words runs tags
line_of program (Broken b) = breach_words program b

-- two traces with the same runs: how many runs and how many tags with a run
abbrev pub same_words : ℕ → ℕ → List ℕ
same_words runs tags = field (codes "same runs=") runs ++ field (codes " tags=") tags ++ codes "\n"

-- two traces that differ: the tag and the reaction
abbrev pub differ_words : Parts → Tag → ℕ → List ℕ
differ_words program g r = field (codes "differ time=") g.time ++ field (codes " microstep=") g.micro ++ codes " reaction=" ++ reaction_words program r ++ codes "\n"

-- the line of two traces: a broken rule behind the word that tells which of them breaks it, or what their comparison says
abbrev pub line_of_pair : Parts → Paired → List ℕ
line_of_pair program (paired.First b) = codes "first " ++ breach_words program b
line_of_pair program (paired.Second b) = codes "second " ++ breach_words program b
line_of_pair program (paired.Same runs tags) = same_words runs tags
line_of_pair program (paired.Differ g r) = differ_words program g r
