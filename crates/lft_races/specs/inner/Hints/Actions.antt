-- The actions among the triggers of a reaction, by their numbers. This serves the look-up of actions alone.
use Rattle.std.specs.Prelude.{◌≡◌, ℕ, ◌<◌, List, Some, MatchOption, slice_get}
use Rattle.std.specs.{BTreeMap.{BTreeMap, get}, Ordering.nat_cmp}
use Rattle.lft_ir.specs.{Parts.Parts, declared.parts.{Name.TheVariants.Action, Trigger.{Trigger, TheVariants.On}}}
use Rattle.lft_races.specs.Hints.Hints.{HasTrigger}

-- a place of each action that is among the first i triggers
abbrev pub AreActionsTo : ℕ → List Trigger → BTreeMap ℕ ℕ → Type 0
AreActionsTo i triggers map = (a : ℕ) → MatchOption (get nat_cmp map a) ((k : ℕ) → k < i → ¬ (slice_get triggers k ≡ Some (On (Action a)))) (λ k. slice_get triggers k ≡ Some (On (Action a)))

-- the actions among the triggers of r are in the map, and no others
abbrev pub AreActions : Parts → ℕ → BTreeMap ℕ ℕ → Type 0
AreActions program r map = (a : ℕ) → MatchOption (get nat_cmp map a) (¬ HasTrigger program r (On (Action a))) (λ k. HasTrigger program r (On (Action a)))
