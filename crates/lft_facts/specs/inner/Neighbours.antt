-- Runs and firings that are nearest to a tag. The contracts of private functions alone need this file.
use Rattle.std.specs.Prelude.{ℕ, ◌<◌, List, Option, MatchOption}
use Rattle.lft_tag.specs.{declared.Tag.Tag, Tags.Before}
use Rattle.lft_ir.specs.declared.{parts.Timer.Timer as TimerOf, steps.row.Row.Row}
use Rattle.lft_model.specs.Presence.{Fires}
use Rattle.lft_races.specs.Runs.{StartsAt}

-- of the runs of r at tags of a kind that start in the rows before place i the one to which the others come up, if any: its tag and its place
abbrev pub IsNearestStart : (Tag → Type 0) → (Tag → Tag → Type 0) → List Row → ℕ → ℕ → Option (Tag × ℕ) → Type 0
IsNearestStart Kind UpToIt t r i o = MatchOption o ((j : ℕ) (k : Tag) → j < i → StartsAt t k r j → ¬ Kind k) (λ run. StartsAt t run.0 r run.1 × Kind run.0 × ((j : ℕ) (k : Tag) → j < i → StartsAt t k r j → Kind k → UpToIt k run.0))

-- of the tags before g at which the timer fires the last is h
pub record IsFiringBefore (timer : TimerOf) (g h : Tag) : Type 0 where
  pub fires : Fires timer h
  pub before : Before h g
  pub none_between : (k : Tag) → Before h k → Before k g → ¬ Fires timer k

-- of the tags after g at which the timer fires the first is h
pub record IsFiringAfter (timer : TimerOf) (g h : Tag) : Type 0 where
  pub fires : Fires timer h
  pub after : Before g h
  pub none_between : (k : Tag) → Before g k → Before k h → ¬ Fires timer k
