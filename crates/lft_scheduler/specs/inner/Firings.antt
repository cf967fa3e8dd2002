-- The next firings of the live timers.
use Rattle.std.specs.Prelude.{◌≡◌, ◌⊎◌, ℕ, ◌<◌, cond, List, Some, Contains, slice_get}
use Rattle.std.specs.{List.sum_by, declared.cmp.{Ordering.Ordering, Reverse.Reverse}, Ordering.{nat_cmp, ordering_then}}
use Rattle.lft_tag.specs.{declared.Tag.Tag, Tags.{Before, UpTo, is_before}}
use Rattle.lft_ir.specs.{Parts.Parts, declared.parts.Timer.Timer as TimerOf}
use Rattle.lft_model.specs.Presence.{Fires}
use Rattle.lft_scheduler.specs.{inner.{Listeners.IsLive, Telling.FiresAt}, declared.firings.Firing.Firing}

-- the tag of a firing
abbrev pub tag_of_firing : Firing → Tag
tag_of_firing f = record { time = f.time; micro = 0 }

-- the order of a heap whose greatest item is the first firing
abbrev pub sooner_first : Reverse Firing → Reverse Firing → Ordering
sooner_first x y = ordering_then (nat_cmp y.0.time x.0.time) (nat_cmp y.0.timer x.0.timer)

-- the first of a timer's firings with a property
pub record IsFirstFiring (timer : TimerOf) (P : Tag → Type 0) (h : Tag) : Type 0 where
  pub fires : Fires timer h
  pub holds : P h
  pub least : (f : Tag) → Fires timer f → P f → UpTo h f

-- the first firing with a property of the program's timer
abbrev pub IsFirstOf : Parts → (Tag → Type 0) → Firing → Type 0
IsFirstOf program P f = (timer : TimerOf) × (slice_get program.timers f.timer ≡ Some timer) × IsFirstFiring timer P (tag_of_firing f)

-- each live timer has its first firing with a property, where it has one, and nothing else is kept
pub record AreFirstFirings (program : Parts) (P : Tag → Type 0) (fs : List Firing) : Type 0 where
  pub all : (n : ℕ) (h : Tag) → IsLive program n → FiresAt program h n → P h → (f : Firing) × Contains fs f × (f.timer ≡ n)
  pub only : (f : Firing) → Contains fs f → IsLive program f.timer × IsFirstOf program P f

-- how many firings aren't after the tag
abbrev pub how_many_until : Tag → List Firing → ℕ
how_many_until g fs = sum_by (λ f. cond (is_before g (tag_of_firing f)) 0 1) fs

-- a firing of timer n that isn't after the tag is replaced by the timer's first one after the tag, where it has one
pub record IsMoved (program : Parts) (g : Tag) (n : ℕ) (old new : List Firing) : Type 0 where
  pub there : (f : Firing) × Contains old f × (f.timer ≡ n) × UpTo (tag_of_firing f) g
  pub kept : (f : Firing) → Contains old f → Contains new f ⊎ (f.timer ≡ n)
  pub only : (f : Firing) → Contains new f → Contains old f ⊎ ((f.timer ≡ n) × IsFirstOf program (λ h. Before g h) f)
  pub next : (h : Tag) → FiresAt program h n → Before g h → (f : Firing) × Contains new f × (f.timer ≡ n)
  pub fewer : how_many_until g new < how_many_until g old
