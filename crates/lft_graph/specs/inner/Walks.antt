-- How far lists are walked. The contracts of private functions alone need this file.
use Rattle.std.specs.Prelude.{◌≡◌, ℕ, ◌+◌, ◌-◌, ◌<◌, ◌≤◌, ◌⊎◌, List, [], Option, Some, slice_get, length, Contains, nat_le, if◌then◌else◌, get_or}
use Rattle.lft_ir.specs.{Parts.Parts, Origins.Origin, declared.parts.Name.{Name, TheVariants.{Port, Action}}}
use Rattle.lft_graph.specs.Before.{Writes, IsLastWriter, Reaches, IsBefore}

-- for each port the last writer among the reactions below a number
pub record KnowsWriters (program : Parts) (below : ℕ) (writers : List (Option ℕ)) : Type 0 where
  pub as_long : length writers ≡ length program.ports
  pub right : (p a : ℕ) → slice_get writers p ≡ Some (Some a) → Writes program a p
  pub last : (p a : ℕ) → a < below → Writes program a p → (b : ℕ) × (slice_get writers p ≡ Some (Some b)) × (a ≤ b)

-- the name is a port that is reached from o without a delay
abbrev pub IsUndelayed : Parts → Name → ℕ → Type 0
IsUndelayed program (Port p) o = Origin program p o []
IsUndelayed program (Action a) o = ⊥

-- a is the last writer of the undelayed origin of the name
abbrev pub IsFeeder : Parts → Name → ℕ → Type 0
IsFeeder program name a = (o : ℕ) × IsUndelayed program name o × IsLastWriter program a o

-- the feeders of the names at places below one are added to a list
pub record NotesBelow (program : Parts) (At : ℕ → Name → Type 0) (place : ℕ) (old new : List ℕ) : Type 0 where
  pub kept : (a : ℕ) → Contains old a → Contains new a
  pub only : (a : ℕ) → Contains new a → Contains old a ⊎ ((i : ℕ) × (name : Name) × (i < place) × At i name × IsFeeder program name a)
  pub covers : (i a o : ℕ) (name : Name) → i < place → At i name → Writes program a o → IsUndelayed program name o → (b : ℕ) × IsLastWriter program b o × Contains new b

-- whatever writes the origin of an undelayed input of r is followed by the last such writer in the list
abbrev pub Covers : Parts → ℕ → List ℕ → Type 0
Covers program r list = (a o : ℕ) → Writes program a o → Reaches program o r → (b : ℕ) × IsLastWriter program b o × Contains list b

-- the first lists, one for each reaction below a number
pub record HasLists (program : Parts) (below : ℕ) (lists : List (List ℕ)) : Type 0 where
  pub as_long : length lists ≡ below
  pub before : (r : ℕ) (list : List ℕ) → slice_get lists r ≡ Some list → IsBefore program r list
  pub covers : (r : ℕ) (list : List ℕ) → slice_get lists r ≡ Some list → Covers program r list

-- the members of each list are places of lists
abbrev pub AreInside : List (List ℕ) → Type 0
AreInside before = (r i a : ℕ) (list : List ℕ) → slice_get before r ≡ Some list → slice_get list i ≡ Some a → a < length before

-- a is in the list of b
abbrev pub IsStep : List (List ℕ) → ℕ → ℕ → Type 0
IsStep before a b = (list : List ℕ) × (i : ℕ) × (slice_get before b ≡ Some list) × (slice_get list i ≡ Some a)

-- the members of the list of a number
abbrev pub members_in : List (List ℕ) → ℕ → List ℕ
members_in before r = get_or before r []

-- the level that a list gives, by the levels of its members
pub record IsLevelOf (levels list : List ℕ) (place level : ℕ) : Type 0 where
  pub above : (i a : ℕ) → i < place → slice_get list i ≡ Some a → (k : ℕ) × (slice_get levels a ≡ Some k) × (k < level)
  pub least : 0 < level → (i : ℕ) × (a : ℕ) × (k : ℕ) × (slice_get list i ≡ Some a) × (slice_get levels a ≡ Some k) × (k + 1 ≡ level)

-- a step of a turn: from a place down to 0, and then from the end down to the place
abbrev pub turned : ℕ → ℕ → ℕ → ℕ
turned place total step = if nat_le step place then place - step else (total + place) - step

-- the loop is the circle backwards, turned so that the least is first
pub record IsTurned (circle loop : List ℕ) : Type 0 where
  pub place : ℕ
  pub within : place < length circle
  pub as_long : length loop ≡ length circle
  pub turns : (t : ℕ) → t < length loop → slice_get loop t ≡ slice_get circle (turned place (length circle) t)
  pub least : (i a b : ℕ) → slice_get circle i ≡ Some a → slice_get circle place ≡ Some b → b ≤ a
