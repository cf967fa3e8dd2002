-- Which triggers of a reaction tell where one of all is present.
use Rattle.std.specs.Prelude.{◌≡◌, ℕ, ◌+◌, ◌*◌, ◌<◌, ◌⊎◌, List, Some, slice_get}
use Rattle.lft_tag.specs.declared.Tag.{Tag}
use Rattle.lft_ir.specs.{Parts.Parts, declared.parts.{Timer.Timer as TimerOf, Reaction.Reaction, Trigger.{Trigger, TheVariants.Timer}}}
use Rattle.lft_model.specs.Presence.{Fires}
use Rattle.lft_rows.specs.declared.presence.needed.Beat.{Beat}

-- each firing of timer n is one of timer m
pub record Covers (program : Parts) (m n : ℕ) : Type 0 where
  pub first : TimerOf
  pub second : TimerOf
  pub is_first : slice_get program.timers m ≡ Some first
  pub is_second : slice_get program.timers n ≡ Some second
  pub fires : (g : Tag) → Fires second g → Fires first g

-- y is present wherever x is: it is x, or a timer that makes all firings of x
abbrev pub StandsFor : Parts → Trigger → Trigger → Type 0
StandsFor program y x = (y ≡ x) ⊎ ((m n : ℕ) × (y ≡ Timer m) × (x ≡ Timer n) × Covers program m n)

-- ys are some of the triggers xs, and for each of these one of ys stands
pub record AreNeeded (program : Parts) (xs ys : List Trigger) : Type 0 where
  pub only : (k : ℕ) (y : Trigger) → slice_get ys k ≡ Some y → (j : ℕ) × (slice_get xs j ≡ Some y)
  pub each : (j : ℕ) (x : Trigger) → slice_get xs j ≡ Some x → (k : ℕ) × (y : Trigger) × (slice_get ys k ≡ Some y) × StandsFor program y x

-- the same of the triggers of a reaction
abbrev pub AreNeededOf : Parts → ℕ → List Trigger → Type 0
AreNeededOf program r ys = (x : Reaction) × (slice_get program.reactions r ≡ Some x) × AreNeeded program x.triggers ys

-- the time is a whole number of periods, and 0 where the period is
abbrev pub IsMultiple : ℕ → ℕ → Type 0
IsMultiple time period = (n : ℕ) × (time ≡ n * period) × (period ≡ 0 → n ≡ 0)

-- the beat is that of its timer
pub record IsBeatOf (program : Parts) (b : Beat) : Type 0 where
  pub timer : TimerOf
  pub is_timer : slice_get program.timers b.number ≡ Some timer
  pub offset : b.offset ≡ timer.offset
  pub period : b.period ≡ timer.period

-- the two have one period, and the second begins some whole number of periods after the first
pub record InStep (first second : Beat) : Type 0 where
  pub same : first.period ≡ second.period
  pub count : ℕ
  pub later : second.offset ≡ first.offset + count * first.period
  pub once : first.period ≡ 0 → count ≡ 0

-- one of the beats has its timer among the triggers, and makes all firings of b
pub record IsMade (beats : List Beat) (ys : List Trigger) (b : Beat) : Type 0 where
  pub place : ℕ
  pub first : Beat
  pub is_first : slice_get beats place ≡ Some first
  pub there : (k : ℕ) × (slice_get ys k ≡ Some (Timer first.number))
  pub in_step : InStep first b

-- timers of beats were added to the triggers: for each of the first k beats one that makes its firings
pub record AreAdded (beats : List Beat) (k : ℕ) (old new : List Trigger) : Type 0 where
  pub kept : (i : ℕ) (y : Trigger) → slice_get old i ≡ Some y → slice_get new i ≡ Some y
  pub only : (i : ℕ) (y : Trigger) → slice_get new i ≡ Some y → (slice_get old i ≡ Some y) ⊎ ((j : ℕ) × (b : Beat) × (slice_get beats j ≡ Some b) × (y ≡ Timer b.number))
  pub each : (j : ℕ) (b : Beat) → j < k → slice_get beats j ≡ Some b → IsMade beats new b
