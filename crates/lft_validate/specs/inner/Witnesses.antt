-- Inside: what each witness shows of the reactors of a file.
use Rattle.std.specs.Prelude.{◌≡◌, ◌==◌, ℕ, Bool, true, false, List, ◌∷◌, ◌++◌, Option, Some, None, slice_get, map, Any, []}
use Rattle.lft_lists.specs.Walks.{IsCircle as IsCircleOf}
use Rattle.lft_tree.specs.{Tree.ReactorTree, declared.tree.Reactor.Reactor}
use Rattle.lft_resolve.specs.{Causes.{HasLongTime, Holds, IsFirst, NoneHolds, first_causes, later_causes, number_of}, declared.causes.ProgramFault.ProgramFault}
use Rattle.lft_validate.specs.{declared.witness.Witness.Witness, Witnesses.{Shows, fault_shown}}

-- the cause that a time alone shows, with its number
abbrev pub time_causes : List ReactorTree → List (ℕ × Type 0)
time_causes reactors = (14, Any HasLongTime reactors) ∷ []

-- the one, if the test holds, else the other
abbrev pub either : Bool → Type 0 → Type 0 → Type 0
either true A B = A
either false A B = B

-- the cause of this number among these
abbrev pub numbered : List (ℕ × Type 0) → ℕ → Type 0
numbered [] n = ⊥
numbered ((k, C) ∷ rest) n = either (k == n) C (numbered rest n)

-- what the cause says of the reactors; of instances it isn't asked here
abbrev pub CauseSays : List ReactorTree → ProgramFault → Type 0
CauseSays reactors cause = numbered (first_causes reactors ++ later_causes reactors ++ time_causes reactors) (number_of cause)

-- these causes with their numbers, in this order
abbrev pub causes_in_order : List ReactorTree → List ProgramFault → List (ℕ × Type 0)
causes_in_order reactors = map (λ c. (number_of c, CauseSays reactors c))

-- the witness shows the first of the causes that holds; where there is none, no cause holds
abbrev pub IsFirstShown : List Reactor → List (ℕ × Type 0) → Option Witness → Type 0
IsFirstShown reactors causes (Some w) = Shows reactors w × IsFirst causes (number_of (fault_shown w))
IsFirstShown reactors causes None = NoneHolds causes

-- the reactor with the first place has an instance of that with the second
pub record HoldsAt (reactors : List ReactorTree) (a b : ℕ) : Type 0 where
  pub outer : ReactorTree
  pub inner : ReactorTree
  pub is_outer : slice_get reactors a ≡ Some outer
  pub is_inner : slice_get reactors b ≡ Some inner
  pub holds : Holds reactors outer inner

-- there is a reactor, each has an instance of the next, and the last of the first
abbrev pub IsCircle : List ReactorTree → List ℕ → Type 0
IsCircle reactors places = IsCircleOf (HoldsAt reactors) places
