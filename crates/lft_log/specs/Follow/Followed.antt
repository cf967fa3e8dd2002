-- What is told of a reader's log, and what was written of it.
use Rattle.std.specs.Prelude.{◌≡◌, ℕ, Bool, List, ◌∷◌, ◌++◌, Option, Some}
use Rattle.std.specs.Io.KnownBytes.{Appends, Consumes, IsAtEnd}
use Rattle.lft_tag.specs.declared.Tag.{Tag}
use Rattle.lft_trace.specs.Numbers.{number}
use Rattle.lft_model.specs.Plans.{PlanParts}
use Rattle.lft_monitor.specs.declared.judged.Ending.{Ending}
use Rattle.lft_log.specs.{Logs.HasManyRows, Told.{IsEnded, TellsOpen}, declared.{told.{Ended.Ended, Final.{Final, TheVariants.AtEnd}}, follow.kept.Kept.Kept}}
use Rattle.lft_log.specs.Follow.{Kept.IsKeptOn, Lines.line_of_log}

-- the words are a tag's time and microstep, a comma between them
abbrev pub until_words : List ℕ → Tag → Type 0
until_words words g = (time : List ℕ) × (microstep : List ℕ) × (words ≡ time ++ 44 ∷ microstep) × (number 1000000000000000000 time ≡ Some g.time) × (number 1000000000 microstep ≡ Some g.micro)

-- the reader gave these bytes, and what is told is so of them, where this plan was given before; at the end it has no more
pub record IsRead (base : PlanParts) (until : Option Tag) (whole : Bool) (bytes : List ℕ) (old new : Option (List ℕ)) (told : Final) : Type 0 where
  pub given : Consumes old new bytes
  pub ended : IsEnded base until whole bytes told
  pub all : (ending : Ending) → told ≡ AtEnd ending → IsAtEnd new

-- the reader gave some bytes of which this is so, and they are kept; at the end the runs are those without an end behind them
abbrev pub IsReadKept : PlanParts → Option Tag → Bool → Kept → Kept → Option (List ℕ) → Option (List ℕ) → Ended → Type 0
IsReadKept base until whole kept_old kept_new old new e = (bytes : List ℕ) × IsRead base until whole bytes old new e.told × IsKeptOn (HasManyRows base.program bytes) kept_old kept_new bytes × TellsOpen base bytes e.told e.still_open

-- what is told is so of the bytes that the reader gave under the plan, which are kept, and its line was written
pub record IsFollowedUnder (plan : PlanParts) (until : Option Tag) (whole : Bool) (kept_old kept_new : Kept) (old new out_old out_new : Option (List ℕ)) (e : Ended) : Type 0 where
  pub read : IsReadKept plan until whole kept_old kept_new old new e
  pub written : Appends out_old out_new (line_of_log plan.program e.told)
