-- What is told of a log, with what explains it.
use Rattle.std.specs.Prelude.{◌≡◌, ◌⊎◌, ◌<◌, ◌^◌, ℕ, Bool, true, false, List, ◌∷◌, ◌++◌, length, take, Option, MatchOption, []}
use Rattle.lft_tag.specs.declared.Tag.{Tag}
use Rattle.lft_ir.specs.{Parts.Parts, declared.steps.row.Row.Row}
use Rattle.lft_model.specs.{declared.breach.Breach.Breach, Plans.PlanParts}
use Rattle.lft_races.specs.Races.{FirstSoFar}
use Rattle.lft_log.specs.{Explain.{Cuts.IsCutBehind, Listed.runs_words, Reasons.AreReasonsSoFar}, Logs.HasManyRows, Told.{AreOpenAtEnd, TellsPlan}}
use Rattle.lft_log.specs.declared.told.{Told.TheVariants.Broken, Final.{Final, TheVariants.{Soon, AtEnd}}}
use Rattle.lft_log.specs.declared.explain.explaining.{Explained.Explained, Unexplained.{Unexplained, TheVariants.{NoMemory, TooLong}}}
use Rattle.lft_log.specs.Follow.{Lines.line_of_log, Followed.IsRead}
use Rattle.lft_monitor.specs.Follows.{breach_of}
use Rattle.lft_monitor.specs.declared.found.BrokenRule.{BrokenRule}
use Rattle.lft_monitor.specs.declared.open.StillOpen.{StillOpen}
use Rattle.lft_driver.specs.Explained.{Writes}
use Rattle.lft_monitor.specs.declared.judged.Ending.TheVariants as ending

-- of a breach, at the end or before it, the text is what explains it, where rows are missing it lists runs, else it is empty
abbrev pub IsTextOf : (Bool → BrokenRule → List ℕ → Type 0) → (List ℕ → Type 0) → Final → List ℕ → Type 0
IsTextOf Explain Lists (Soon (Broken b)) text = Explain false b text
IsTextOf Explain Lists (AtEnd (ending.Broken b)) text = Explain true b text
IsTextOf Explain Lists (AtEnd (ending.Unbroken r)) text = Lists text
IsTextOf Explain Lists told text = text ≡ []

-- why no such text is there: of a breach too much was read, or memory was refused; of runs memory was; else it is there
abbrev pub IsLack : Type 0 → Final → Unexplained → Type 0
IsLack IsLong (Soon (Broken b)) why = why ≡ TooLong → IsLong
IsLack IsLong (AtEnd (ending.Broken b)) why = why ≡ TooLong → IsLong
IsLack IsLong (AtEnd (ending.Unbroken r)) why = why ≡ NoMemory
IsLack IsLong told why = ⊥

-- the first n rows are those up to the one behind which the breach is sure; at the end they are all, where it isn't sure before
abbrev pub IsCutUpTo : Bool → List Row → Breach → ℕ → Type 0
IsCutUpTo false t b n = IsCutBehind t b n
IsCutUpTo true t b n = IsCutBehind t b n ⊎ ((m : ℕ) → ¬ IsCutBehind t b m) × (n ≡ length t)

-- the rows are these first ones of the log, for the plan that it tells: a last line without its end may count
abbrev pub IsLogCut : Bool → PlanParts → List ℕ → PlanParts → Breach → List Row → Type 0
IsLogCut at_end base log plan b rows = (t : List Row) × (others : List (List (List ℕ))) × (rest : List ℕ) × (n : ℕ) × TellsPlan base (log ++ 10 ∷ []) plan t others rest × IsCutUpTo at_end t b n × (rows ≡ take n t)

-- where the breach is the first of the rows, what explains it of them, else nothing
abbrev pub ExplainsFirst : Bool → PlanParts → List Row → Breach → List ℕ → Type 0
ExplainsFirst all plan t b text = FirstSoFar plan t b × AreReasonsSoFar all plan t b text ⊎ (¬ FirstSoFar plan t b) × (text ≡ [])

-- the same of the first rows of the log, up to the one behind which the breach is sure
abbrev pub ExplainsCut : Bool → Bool → PlanParts → List ℕ → Breach → List ℕ → Type 0
ExplainsCut all at_end base log b text = (plan : PlanParts) × (rows : List Row) × IsLogCut at_end base log plan b rows × ExplainsFirst all plan rows b text

-- the text has the lines of the runs that are open at the end of the log
abbrev pub ListsOpen : PlanParts → List ℕ → List ℕ → Type 0
ListsOpen base log text = (runs : List StillOpen) × AreOpenAtEnd base log runs × (text ≡ runs_words base.program runs)

-- what is to stand behind the line of what is told of a log
abbrev pub IsToStand : Bool → PlanParts → List ℕ → Final → List ℕ → Type 0
IsToStand all base log told text = IsTextOf (λ at_end found. ExplainsCut all at_end base log (breach_of found)) (ListsOpen base log) told text

-- the log has more bytes than are kept, or more rows than a table may have: a last line without its end may count
abbrev pub IsLogTooLong : Parts → List ℕ → Type 0
IsLogTooLong program log = (2 ^ 30 < length log) ⊎ HasManyRows program (log ++ 10 ∷ [])

-- it stands there; or nothing does, and why is told
abbrev pub IsBehindLine : Bool → PlanParts → List ℕ → Explained → List ℕ → Type 0
IsBehindLine all base log e text = MatchOption e.unexplained (IsToStand all base log e.told text) (λ why. IsLack (IsLogTooLong base.program log) e.told why × (text ≡ []))

-- what is told is so of the log that the reader gave under the plan, and its line was written, with what stands behind it
pub record IsLogExplainedUnder (plan : PlanParts) (until : Option Tag) (whole all : Bool) (old new out_old out_new : Option (List ℕ)) (e : Explained) : Type 0 where
  pub log : List ℕ
  pub read : IsRead plan until whole log old new e.told
  pub rest : List ℕ
  pub behind : IsBehindLine all plan log e rest
  pub written : Writes (λ text. text ≡ line_of_log plan.program e.told ++ rest) out_old out_new
