-- Which reactions each port and each action triggers.
use Rattle.std.specs.Prelude.{◌≡◌, ℕ, ◌<◌, cond, List, [], length, Option, Some, slice_get, Contains}
use Rattle.lft_ir.specs.{Parts.Parts, declared.{parts.{Name.{Name, TheVariants.{Port, Action}}, Trigger.TheVariants.On}, steps.row.Row.Row}}
use Rattle.lft_tag.specs.declared.Tag.{Tag}
use Rattle.lft_model.specs.{Plans.PlanParts, Runs.Ran}
use Rattle.lft_queue.specs.{declared.coming.listeners.NameListeners.NameListeners, inner.Coming.{AtOnce.{is_undelayed, origin_of, HaveGrown}, Listens.Listens}}

-- the list of a name, if there is one
abbrev pub list_of : NameListeners → Name → Option (List ℕ)
list_of listeners (Port p) = slice_get listeners.ports p
list_of listeners (Action a) = slice_get listeners.actions a

-- there is a list of the name
abbrev pub HasListOf : NameListeners → Name → Type 0
HasListOf listeners (Port p) = p < length listeners.ports
HasListOf listeners (Action a) = a < length listeners.actions

-- the name whose list has a name's listeners: a port that is reached without a delay is heard at its origin
abbrev pub heard_at : Parts → Name → Name
heard_at program (Port p) = Port (cond (is_undelayed program p) (origin_of program p) p)
heard_at program (Action a) = Action a

-- both have as many lists, each with all that it had
abbrev pub BothGrow : NameListeners → NameListeners → Type 0
BothGrow old new = HaveGrown old.ports new.ports × HaveGrown old.actions new.actions

-- r stands in the list of each of the names
abbrev pub IsListed : Parts → List Name → ℕ → NameListeners → Type 0
IsListed program names r listeners = (k : ℕ) (n : Name) (list : List ℕ) → slice_get names k ≡ Some n → list_of listeners (heard_at program n) ≡ Some list → Contains list r

-- the list of a name has each reaction that the name triggers
pub record AreNameListeners (plan : PlanParts) (listeners : NameListeners) : Type 0 where
  pub ports : length listeners.ports ≡ length plan.program.ports
  pub actions : length listeners.actions ≡ length plan.program.actions
  pub each : (n : Name) (r : ℕ) (list : List ℕ) → Listens plan r (On n) → list_of listeners (heard_at plan.program n) ≡ Some list → Contains list r

-- the name is known to trigger nothing
abbrev pub IsUnheard : NameListeners → Name → Type 0
IsUnheard listeners n = list_of listeners n ≡ Some []

-- each reaction in the list of a name has a run at g
abbrev pub AreStarted : List Row → Tag → NameListeners → Name → Type 0
AreStarted t g listeners n = (list : List ℕ) (r : ℕ) → list_of listeners n ≡ Some list → Contains list r → Ran t g r
