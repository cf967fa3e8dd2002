-- What the steps of the search for the first missing run answer, and of that for the first tag without any run. This serves the proofs of these searches alone.
use Rattle.std.specs.Prelude.{◌≡◌, ℕ, ◌+◌, ◌*◌, ◌<◌, ◌≤◌, ◌⊎◌, Bool, true, List, Option, Some, None, slice_get}
use Rattle.lft_tag.specs.{declared.Tag.Tag, Tags.{Before, UpTo}, Shifts.Folded}
use Rattle.lft_ir.specs.declared.parts.{Timer.Timer as TimerOf, Trigger.Trigger}
use Rattle.lft_model.specs.Presence.{stop, Fires, Occurs, Triggered}
use Rattle.lft_rows.specs.{declared.presence.causes.EventCause.EventCause, inner.Presence.Causes.{IsCause, Leads}, Presence.Traces.TraceParts}

-- the pair with the earlier tag of a pair and of a tag with a reaction, of those that are; at one tag the pair
abbrev pub IsEarlierLack : Option (Tag × ℕ) → Option Tag → ℕ → Option (Tag × ℕ) → Type 0
IsEarlierLack None None n r = r ≡ None
IsEarlierLack None (Some b) n r = r ≡ Some (b, n)
IsEarlierLack (Some x) None n r = r ≡ Some x
IsEarlierLack (Some x) (Some b) n r = (r ≡ Some x) × UpTo x.0 b ⊎ (r ≡ Some (b, n)) × Before b x.0

-- the tags are ascending
abbrev pub AreUp : List Tag → Type 0
AreUp tags = (j k : ℕ) (g h : Tag) → j < k → slice_get tags j ≡ Some g → slice_get tags k ≡ Some h → Before g h

-- g is one of the tags
abbrev pub HasTag : List Tag → Tag → Type 0
HasTag tags g = (k : ℕ) × (slice_get tags k ≡ Some g)

-- g is before the low tag, or one of the tags
abbrev pub IsPassed : Tag → List Tag → Tag → Type 0
IsPassed low tags g = Before g low ⊎ HasTag tags g

-- the tags at times before this one, with microstep 0, are before the low tag, and the others are not
pub record IsFirstTime (low : Tag) (due : ℕ) : Type 0 where
  pub before : (time : ℕ) → time < due → Before (record { time = time; micro = 0 }) low
  pub from : (time : ℕ) → due ≤ time → UpTo low (record { time = time; micro = 0 })

-- the timer fires at the time, which is from the low tag on, and each of its earlier firings is before that tag
pub record IsFirstFiringFrom (timer : TimerOf) (low : Tag) (time : ℕ) : Type 0 where
  pub count : ℕ
  pub is_at : time ≡ timer.offset + count * timer.period
  pub once : timer.period ≡ 0 → count ≡ 0
  pub from : UpTo low (record { time = time; micro = 0 })
  pub before : (j : ℕ) → j < count → Before (record { time = timer.offset + j * timer.period; micro = 0 }) low

-- r is triggered at the tags that are marked
abbrev pub AreTriggered : TraceParts → ℕ → List Tag → List Bool → Type 0
AreTriggered cut r tags known = (k : ℕ) (g : Tag) → slice_get known k ≡ Some true → slice_get tags k ≡ Some g → Triggered cut.plan cut.rows g r

-- g is the tag, which is up to the stop and not passed
pub record LacksAt (cut : TraceParts) (low : Tag) (tags : List Tag) (tag g : Tag) : Type 0 where
  pub same : g ≡ tag
  pub in_time : UpTo g (stop cut.plan cut.rows)
  pub not_there : ¬ IsPassed low tags g

-- the timer fires at g, which is up to the stop and not passed
pub record LacksFiring (cut : TraceParts) (timer : TimerOf) (low : Tag) (tags : List Tag) (g : Tag) : Type 0 where
  pub fires : Fires timer g
  pub in_time : UpTo g (stop cut.plan cut.rows)
  pub not_there : ¬ IsPassed low tags g

-- a cause of the name leads to g, which is up to the stop and not passed
pub record LacksCause (cut : TraceParts) (name : ℕ) (s : Folded) (low : Tag) (tags : List Tag) (g : Tag) : Type 0 where
  pub cause : EventCause
  pub is_cause : IsCause cut.plan cut.rows cause
  pub leads : Leads name s g cause
  pub in_time : UpTo g (stop cut.plan cut.rows)
  pub not_there : ¬ IsPassed low tags g

-- the trigger is present at g, which is up to the stop and not passed
pub record LacksTriggerAt (cut : TraceParts) (x : Trigger) (low : Tag) (tags : List Tag) (g : Tag) : Type 0 where
  pub occurs : Occurs cut.plan cut.rows g x
  pub in_time : UpTo g (stop cut.plan cut.rows)
  pub not_there : ¬ IsPassed low tags g

-- r is triggered at g, which is up to the stop and not passed
pub record Lacks (cut : TraceParts) (low : Tag) (tags : List Tag) (r : ℕ) (g : Tag) : Type 0 where
  pub triggered : Triggered cut.plan cut.rows g r
  pub in_time : UpTo g (stop cut.plan cut.rows)
  pub not_there : ¬ IsPassed low tags g
