-- Lists by number and by trigger. The contracts of private functions alone need this file.
use Rattle.std.specs.Prelude.{◌≡◌, ◌↔◌, ◌⊎◌, ◌<◌, ℕ, List, Contains, length}
use Rattle.lft_queue.specs.inner.Coming.NumberLists.{list_at}
use Rattle.lft_ir.specs.declared.parts.{Name.TheVariants.{Port, Action}, Trigger.{Trigger, TheVariants.{Startup, Shutdown, Timer, On}}}

-- a list for each trigger, by its number
pub record TriggerLists : Type 0 where
  pub startup : List ℕ
  pub shutdown : List ℕ
  pub timers : List (List ℕ)
  pub ports : List (List ℕ)
  pub actions : List (List ℕ)

-- the list of a trigger
abbrev pub list_of_trigger : TriggerLists → Trigger → List ℕ
list_of_trigger lists Startup = lists.startup
list_of_trigger lists Shutdown = lists.shutdown
list_of_trigger lists (Timer t) = list_at lists.timers t
list_of_trigger lists (On (Port p)) = list_at lists.ports p
list_of_trigger lists (On (Action a)) = list_at lists.actions a

-- there is a list for the trigger
abbrev pub HasList : TriggerLists → Trigger → Type 0
HasList lists Startup = Unit {0}
HasList lists Shutdown = Unit {0}
HasList lists (Timer t) = t < length lists.timers
HasList lists (On (Port p)) = p < length lists.ports
HasList lists (On (Action a)) = a < length lists.actions

-- one trigger has a reaction more
pub record IsPushed (trigger : Trigger) (reaction : ℕ) (old new : TriggerLists) : Type 0 where
  pub room : (t : Trigger) → HasList old t → HasList new t
  pub each : (t : Trigger) (r : ℕ) → Contains (list_of_trigger new t) r ↔ (Contains (list_of_trigger old t) r ⊎ ((t ≡ trigger) × (r ≡ reaction)))

-- some triggers have a reaction more
pub record ArePushed (triggers : List Trigger) (reaction : ℕ) (old new : TriggerLists) : Type 0 where
  pub room : (t : Trigger) → HasList old t → HasList new t
  pub each : (t : Trigger) (r : ℕ) → Contains (list_of_trigger new t) r ↔ (Contains (list_of_trigger old t) r ⊎ (Contains triggers t × (r ≡ reaction)))
