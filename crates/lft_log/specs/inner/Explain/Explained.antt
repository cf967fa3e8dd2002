-- Inside: what is told of a log, with what explains it.
use Rattle.std.specs.Prelude.{◌≡◌, ◌⊎◌, ℕ, Bool, List, ◌∷◌, ◌++◌, Result, Ok, []}
use Rattle.std.specs.Global.{Vec}
use Rattle.lft_tag.specs.declared.NoMemory.{NoMemory as TheNoMemory}
use Rattle.lft_model.specs.Plans.{PlanParts}
use Rattle.lft_log.specs.{Explain.{Listed.runs_words, Explained.{IsTextOf, ExplainsCut}}, Logs.HasManyRows, declared.{told.Ended.Ended, follow.kept.Kept.Kept}}
use Rattle.lft_monitor.specs.Follows.{breach_of}
use Rattle.lft_monitor.specs.declared.found.BrokenRule.{BrokenRule}
use Rattle.lft_monitor.specs.declared.open.StillOpen.{StillOpen}
use Rattle.lft_log.specs.declared.follow.kept.Kept.TheVariants as keeps

-- all of the log is kept, and the text stands behind the line of a breach that is told of it under the plan
abbrev pub IsReasonOf : Bool → PlanParts → Kept → BrokenRule → Bool → List ℕ → Type 0
IsReasonOf at_end plan kept found all text = (log : Vec ℕ) × (kept ≡ keeps.All log) × ExplainsCut all at_end plan log.items (breach_of found) text

-- too much was read to be kept, or all of the log is kept and has too many rows
abbrev pub IsLongKept : PlanParts → Kept → Type 0
IsLongKept plan kept = (kept ≡ keeps.TooLong) ⊎ (log : Vec ℕ) × (kept ≡ keeps.All log) × HasManyRows plan.program (log.items ++ 10 ∷ [])

-- the text has the lines of the runs, which are known
abbrev pub IsListOf : PlanParts → Result (Vec StillOpen) TheNoMemory → List ℕ → Type 0
IsListOf plan still_open text = (runs : Vec StillOpen) × (still_open ≡ Ok runs) × (text ≡ runs_words plan.program runs.items)

-- the text stands behind the line of what is told: what explains a breach; the runs without an end where rows are missing; else nothing
abbrev pub IsTextBehind : Bool → PlanParts → Kept → Ended → List ℕ → Type 0
IsTextBehind all plan kept e text = IsTextOf (λ at_end found. IsReasonOf at_end plan kept found all) (IsListOf plan e.still_open) e.told text
