-- Inside: what precedes each reaction, as sets.
use Rattle.std.specs.Prelude.{◌≡◌, ◌↔◌, ℕ, ◌+◌, ◌/◌, ◌<◌, ◌≤◌, ◌⊎◌, List, length, Some, slice_get}
use Rattle.lft_ir.specs.Parts.{Parts}
use Rattle.lft_graph.specs.{Precedence.Precedes, Sets.Has}

-- no set has more words than n reactions need
abbrev pub HaveRoom : ℕ → List (List ℕ) → Type 0
HaveRoom n sets = (r : ℕ) (set : List ℕ) → slice_get sets r ≡ Some set → length set ≤ n / 64 + 1

-- the set of each reaction has just what precedes it
pub record AreAncestors (program : Parts) (sets : List (List ℕ)) : Type 0 where
  pub as_long : length sets ≡ length program.reactions
  pub room : HaveRoom (length sets) sets
  pub right : (r : ℕ) (set : List ℕ) → slice_get sets r ≡ Some set → (a : ℕ) → Has set a ↔ Precedes program a r

-- each member of the list has a set
abbrev pub HasAll : List ℕ → List (List ℕ) → Type 0
HasAll list sets = (i b : ℕ) → slice_get list i ≡ Some b → b < length sets

-- a is one of the first k members of the list, or in the set of one
abbrev pub IsUnder : List ℕ → ℕ → List (List ℕ) → ℕ → Type 0
IsUnder list k sets a = (i b : ℕ) × (i < k) × (slice_get list i ≡ Some b) × ((a ≡ b) ⊎ ((set : List ℕ) × (slice_get sets b ≡ Some set) × Has set a))

-- the set has just the first k members of the list and what is in their sets
abbrev pub IsUnion : List ℕ → ℕ → List (List ℕ) → List ℕ → Type 0
IsUnion list k sets set = (a : ℕ) → Has set a ↔ IsUnder list k sets a
