-- The lists of what the instances of a nest declare. The contracts of the crate's own functions alone need this file.
use Rattle.std.specs.Prelude.{◌≡◌, ℕ, List, [], map, slice_get, unwrap_or}
use Rattle.std.specs.{List.AllZip, Option.option_and_then}
use Rattle.lft_tree.specs.Tree.{FileTree, reactors_of, ports_of, actions_of, timers_of, reactions_of}
use Rattle.lft_resolve.specs.declared.expansion.{numbering.Thing.Thing, walk.Instance.Instance}
use Rattle.lft_program.specs.{Located.{Declared, declared}, inner.{Nests.IsNest, OwnNames.own_names}}
use Rattle.lft_program.specs.declared.{nesting.{nest.Nest.Nest, tables.Tables.Tables}, naming.{OwnName.OwnName, PlacedReaction.PlacedReaction}}
use Rattle.lft_program.specs.declared.tree_lists.Lists.{Lists}
use Rattle.lft_program.specs.declared.own_names.MemberKind.TheVariants as kinds

-- the name at a place of the reactor of an instance, where each reactor has a list of names; an empty one where there is none
abbrev pub name_at : List (List (List ℕ)) → List Instance → ℕ → ℕ → List ℕ
name_at lists instances n place = unwrap_or (option_and_then (λ l. slice_get l place) (option_and_then (λ i. slice_get lists i.reactor) (slice_get instances n))) []

-- the instance and the name of a thing
abbrev pub seen : OwnName → ℕ × List ℕ
seen d = (d.instance, d.name.now)

-- a reaction by its instance and its place
abbrev pub placed_at : Thing → PlacedReaction
placed_at t = record { instance = t.instance; place = t.place }

-- the thing has the instance and the name of the declaration
abbrev pub SaysDeclaration : {X : Type 0} → (X → List ℕ) → Declared X → OwnName → Type 0
SaysDeclaration name d x = (x.instance ≡ d.instance) × (x.name.now ≡ name d.item)

-- the reaction has the instance and the place of the declaration
abbrev pub IsPlacedAt : {X : Type 0} → Declared X → PlacedReaction → Type 0
IsPlacedAt d x = (x.instance ≡ d.instance) × (x.place ≡ d.place)

-- each instance has the number of the one that contains it and its name there, and all else that of its instance, with its own name or its place
pub record AreLists (tree : FileTree) (tables : Tables) (nest : Nest) (is : IsNest tree tables nest) (lists : Lists) : Type 0 where
  pub instances : map seen lists.instances.items ≡ map (λ i. (i.parent, name_at (map (own_names kinds.Instance) (reactors_of tree)) nest.instances.items i.parent i.place)) nest.instances.items
  pub ports : AllZip (SaysDeclaration (λ x. x.name)) (declared ports_of is.located) lists.ports.items
  pub actions : AllZip (SaysDeclaration (λ x. x.name)) (declared actions_of is.located) lists.actions.items
  pub timers : AllZip (SaysDeclaration (λ x. x.name)) (declared timers_of is.located) lists.timers.items
  pub reactions : AllZip IsPlacedAt (declared reactions_of is.located) lists.reactions.items
