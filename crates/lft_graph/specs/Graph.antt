-- What contracts see of a graph, and what it says of its program.
use Rattle.std.specs.Prelude.{◌≡◌, ◌↔◌, ℕ, ◌+◌, ◌<◌, ◌⊎◌, List, Some, slice_get, length, Contains}
use Rattle.lft_ir.specs.Parts.{Parts}
use Rattle.lft_graph.specs.{Precedence.Precedes, Before.IsBefore}

-- for each reaction its short list and its level, and all reactions in the order of their levels
pub record GraphParts : Type 0 where
  pub before : List (List ℕ)
  pub levels : List ℕ
  pub by_level : List ℕ

-- the level of each reaction is above those in its list, and is 0 or one more than one of these
pub record AreLevels (before : List (List ℕ)) (levels : List ℕ) : Type 0 where
  pub as_long : length levels ≡ length before
  pub above : (a r k l : ℕ) (list : List ℕ) → slice_get before r ≡ Some list → Contains list a → slice_get levels a ≡ Some k → slice_get levels r ≡ Some l → k < l
  pub least : (r l : ℕ) (list : List ℕ) → slice_get before r ≡ Some list → slice_get levels r ≡ Some l → 0 < l → (a : ℕ) × (k : ℕ) × Contains list a × (slice_get levels a ≡ Some k) × (k + 1 ≡ l)

-- each reaction stands in the list, and one of a lower level, or of the same level and a lower number, before the others
pub record AreByLevel (levels by_level : List ℕ) : Type 0 where
  pub all : (r : ℕ) → Contains by_level r ↔ (r < length levels)
  pub ordered : (i j a b k l : ℕ) → i < j → slice_get by_level i ≡ Some a → slice_get by_level j ≡ Some b → slice_get levels a ≡ Some k → slice_get levels b ≡ Some l → (k < l) ⊎ ((k ≡ l) × (a < b))

-- what precedes a reaction is in its list, or precedes one that is; and nothing else does
abbrev pub HasChains : Parts → List (List ℕ) → Type 0
HasChains program before = (a r : ℕ) (list : List ℕ) → slice_get before r ≡ Some list → Precedes program a r ↔ ((b : ℕ) × Contains list b × ((a ≡ b) ⊎ Precedes program a b))

-- the graph of a program
pub record IsGraphOf (program : Parts) (graph : GraphParts) : Type 0 where
  pub as_long : length graph.before ≡ length program.reactions
  pub before : (r : ℕ) (list : List ℕ) → slice_get graph.before r ≡ Some list → IsBefore program r list
  pub chains : HasChains program graph.before
  pub levels : AreLevels graph.before graph.levels
  pub by_level : AreByLevel graph.levels graph.by_level
