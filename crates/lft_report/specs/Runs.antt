-- The text of runs, of triggers and of what was read.
use Rattle.std.specs.Prelude.{ℕ, List, ◌++◌, codes, decimal}
use Rattle.lft_tag.specs.declared.Tag.{Tag}
use Rattle.lft_ir.specs.{Parts.Parts, declared.parts.Trigger.{Trigger, TheVariants.{Startup, Shutdown, Timer, On}}}
use Rattle.lft_ir.specs.Words.{Words.{tag_words, timer_words, reaction_words, name_words, trigger_words}, Lines.line_words}

-- `X is triggered at G and has no run there.`
abbrev pub no_run_words : Parts → Tag → ℕ → List ℕ
no_run_words program g r = reaction_words program r ++ codes " is triggered at " ++ tag_words g ++ codes " and has no run there.\n"

-- `X runs at G, from line L on.`
abbrev pub runs_at_words : Parts → Tag → ℕ → ℕ → List ℕ
runs_at_words program g r start = reaction_words program r ++ codes " runs at " ++ tag_words g ++ codes ", from " ++ line_words start ++ codes " on.\n"

-- `T is a trigger of X.`
abbrev pub trigger_of_words : Parts → ℕ → Trigger → List ℕ
trigger_of_words program r x = codes "  " ++ trigger_words program x ++ codes " is a trigger of " ++ reaction_words program r ++ codes ".\n"

-- `Triggers of X: 2`
abbrev pub count_words : Parts → ℕ → ℕ → List ℕ
count_words program r count = codes "  Triggers of " ++ reaction_words program r ++ codes ": " ++ decimal count ++ codes "\n"

-- a trigger that is absent at G
abbrev pub absent_words : Parts → Tag → Trigger → List ℕ
absent_words program g Startup = codes "  startup is present at (0, 0) alone.\n"
absent_words program g Shutdown = codes "  shutdown is present at the stop alone.\n"
absent_words program g (Timer n) = codes "  timer " ++ timer_words program n ++ codes " does not fire at " ++ tag_words g ++ codes ".\n"
absent_words program g (On n) = codes "  " ++ name_words program n ++ codes " has no event at " ++ tag_words g ++ codes ".\n"
