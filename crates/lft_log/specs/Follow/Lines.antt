-- The lines that are printed of a trace table that is followed.
use Rattle.std.specs.Prelude.{ℕ, List, ◌++◌, Option, Some, None, codes, []}
use Rattle.lft_tag.specs.declared.Tag.{Tag}
use Rattle.lft_ir.specs.Parts.{Parts}
use Rattle.lft_load.specs.Words.{field}
use Rattle.lft_monitor.specs.{Follows.breach_of, declared.reach.Reach.Reach}
use Rattle.lft_driver.specs.Lines.{accepted_words, breach_words}
use Rattle.lft_log.specs.declared.told.{Told.TheVariants.{Broken, Odd, Reached}, Final.{Final, TheVariants.{Soon, AtEnd}}}
use Rattle.lft_monitor.specs.declared.judged.Ending.TheVariants as ending

-- a tag
abbrev pub tag_fields : Tag → List ℕ
tag_fields g = field (codes " time=") g.time ++ field (codes " microstep=") g.micro

-- the last tag, if there is one
abbrev pub last_words : Option Tag → List ℕ
last_words None = []
last_words (Some g) = tag_fields g

-- how many runs there are, at how many tags, and the last of these tags
abbrev pub reach_words : Reach → List ℕ
reach_words r = field (codes " runs=") r.runs ++ field (codes " tags=") r.tags ++ last_words r.tag

-- rows that break no rule so far
abbrev pub unbroken_words : Reach → List ℕ
unbroken_words r = codes "unbroken" ++ reach_words r ++ codes "\n"

-- rows of which those up to a line may break a rule
abbrev pub odd_words : Reach → ℕ → List ℕ
odd_words r line = field (codes "odd line=") line ++ reach_words r ++ codes "\n"

-- the line of what is told
abbrev pub line_of_log : Parts → Final → List ℕ
line_of_log program (Soon (Broken b)) = breach_words program (breach_of b)
line_of_log program (Soon (Odd r line)) = odd_words r line
line_of_log program (Soon (Reached r)) = unbroken_words r
line_of_log program (AtEnd (ending.Accepted c)) = accepted_words c.runs c.tags
line_of_log program (AtEnd (ending.Unbroken r)) = unbroken_words r
line_of_log program (AtEnd (ending.Broken b)) = breach_words program (breach_of b)

-- the status of what is told: 0 accepted, or unbroken as far as was asked for; 1 broken; 3 unbroken at the end; 4 odd
abbrev pub log_status : Final → ℕ
log_status (Soon (Broken b)) = 1
log_status (Soon (Odd r line)) = 4
log_status (Soon (Reached r)) = 0
log_status (AtEnd (ending.Accepted c)) = 0
log_status (AtEnd (ending.Unbroken r)) = 3
log_status (AtEnd (ending.Broken b)) = 1
