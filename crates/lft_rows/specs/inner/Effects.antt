-- The effects of each reaction, as sets of numbers. This serves the proof of rule 4.
use Rattle.std.specs.Prelude.{◌≡◌, ℕ, List, length, Some, slice_get}
use Rattle.std.specs.{BTreeSet.contains, List.list_any, Ordering.nat_cmp}
use Rattle.lft_ir.specs.{Parts.Parts, declared.parts.Name.{Name, TheVariants.{Port, Action}}, Naming.same_name}
use Rattle.lft_model.specs.Runs.{effects_of}
use Rattle.lft_rows.specs.declared.effects.{EffectSets.EffectSets, Effects.Effects}

-- the one set has the ports among the names, the other the actions
pub record AreSetsOf (names : List Name) (sets : EffectSets) : Type 0 where
  pub ports : (p : ℕ) → contains nat_cmp sets.ports p ≡ list_any (same_name (Port p)) names
  pub actions : (a : ℕ) → contains nat_cmp sets.actions a ≡ list_any (same_name (Action a)) names

-- one by one the sets of the effects of the first n reactions
pub record AreFirst (n : ℕ) (program : Parts) (sets : List EffectSets) : Type 0 where
  pub count : length sets ≡ n
  pub each : (r : ℕ) (own : EffectSets) → slice_get sets r ≡ Some own → AreSetsOf (effects_of program r) own

-- the effects of all reactions
abbrev pub AreEffects : Parts → Effects → Type 0
AreEffects program effects = AreFirst (length program.reactions) program effects.sets.items
