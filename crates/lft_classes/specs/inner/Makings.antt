-- How shapes are made one after another. The contracts of the crate's own functions alone need this file.
use Rattle.std.specs.Prelude.{◌≡◌, ◌≢◌, ◌⊎◌, ℕ, List, [], ◌∷◌, ◌++◌, Option, Some, length, option_map, slice_get}
use Rattle.lft_whole.specs.declared.tree.Instance.{Instance}
use Rattle.lft_classes.specs.declared.{making.Making.Making, scopes.{Class.Class, ReactorNames.ReactorNames}, shapes.{Child.Child, Shape.Shape}}
use Rattle.lft_classes.specs.inner.{Below.IsBelow, Built.{Core, IsBuilt, AreBuilt, AreInside, cores}, Chains.extended_reactor}
use Rattle.lft_classes.specs.inner.Shapes.{child_at, child_in, inside, tables}

-- the one of this number is of the reactor of that number
pub record IsOfClass (cs : List Core) (s r : ℕ) : Type 0 where
  pub core : Core
  pub is_core : slice_get cs s ≡ Some core
  pub is_of : core.class.number ≡ r

-- they are built, of reactors below the first one, and what is noted in them is in them
pub record AreShapes (scopes : ReactorNames) (first : ℕ) (cs : List Core) (rows : List (List (Option Child))) : Type 0 where
  pub built : AreBuilt scopes cs
  pub below : (i : ℕ) (c : Core) → slice_get cs i ≡ Some c → IsBelow scopes first c.class.number
  pub inside : AreInside scopes cs rows

-- so are the shapes that are made, and what is known of reactors is so
pub record AreMadeShapes (scopes : ReactorNames) (first : ℕ) (m : Making) : Type 0 where
  pub shapes : AreShapes scopes first (cores m.shapes.items) (tables m.shapes.items)
  pub known : (r s : ℕ) → slice_get m.known.items r ≡ Some (Some s) → IsOfClass (cores m.shapes.items) s r

-- the reactor of which it is an instance is below the first one, if there is one
abbrev pub IsNeeded : ReactorNames → ℕ → Instance → ℕ → Type 0
IsNeeded scopes file instance first = (r : ℕ) → extended_reactor scopes file instance.reactor ≡ Some r → IsBelow scopes first r

-- what is noted in the shape of this number alone differs
abbrev pub SetsOne : List Shape → List Shape → ℕ → List (Option Child) → Type 0
SetsOne old new number children = (s k : ℕ) (child : Child) → child_in (tables new) s k ≡ Some child → (child_in (tables old) s k ≡ Some child) ⊎ ((s ≡ number) × (child_at children k ≡ Some child))

-- nothing is known of any reactor
abbrev pub KnowsNone : List (Option ℕ) → Type 0
KnowsNone known = (r s : ℕ) → slice_get known r ≡ Some (Some s) → ⊥

-- what is known of reactors more, is of this one
abbrev pub KnowsOne : List (Option ℕ) → List (Option ℕ) → ℕ → ℕ → Type 0
KnowsOne old new class shape = (r s : ℕ) → slice_get new r ≡ Some (Some s) → (slice_get old r ≡ Some (Some s)) ⊎ ((r ≡ class) × (s ≡ shape))

-- one shape more, of this reactor, in which nothing is noted
pub record AddsShape (old new : Making) (class : Class) (number : ℕ) : Type 0 where
  pub scopes : new.scopes ≡ old.scopes
  pub main : new.work.main ≡ old.work.main
  pub number_is : number ≡ length old.shapes.items
  pub fresh : Core
  pub shapes : cores new.shapes.items ≡ cores old.shapes.items ++ fresh ∷ []
  pub is_of : fresh.class ≡ class
  pub built : IsBuilt old.scopes fresh
  pub knows : KnowsOne old.known.items new.known.items class.number number
  pub empty : tables new.shapes.items ≡ tables old.shapes.items ++ [] ∷ []

-- from shapes that are made others are made, and those that were are still the same
pub record GoesOnMaking (needs : ℕ → Type 0) (old new : Making) : Type 0 where
  pub scopes : new.scopes ≡ old.scopes
  pub main : new.work.main ≡ old.work.main
  pub made : (first : ℕ) → needs first → AreMadeShapes old.scopes first old → AreMadeShapes old.scopes first new
  pub kept : (i : ℕ) (c : Core) → slice_get (cores old.shapes.items) i ≡ Some c → slice_get (cores new.shapes.items) i ≡ Some c

-- what is noted stays, but in the shape of that number
abbrev pub KeepsBut : List Shape → List Shape → ℕ → Type 0
KeepsBut old new number = (s k t : ℕ) → s ≢ number → inside (tables old) s k ≡ Some t → inside (tables new) s k ≡ Some t

-- all that is noted stays
abbrev pub KeepsNoted : List Shape → List Shape → Type 0
KeepsNoted old new = (s k t : ℕ) → inside (tables old) s k ≡ Some t → inside (tables new) s k ≡ Some t

-- the shape of this number has these children
abbrev pub HasChildren : List Shape → ℕ → List (Option Child) → Type 0
HasChildren shapes number children = (k t : ℕ) → option_map (λ child. child.shape) (child_at children k) ≡ Some t → inside (tables shapes) number k ≡ Some t
