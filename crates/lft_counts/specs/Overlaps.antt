-- Which reactions have open runs together, and how many.
use Rattle.std.specs.Prelude.{◌≡◌, ◌↔◌, ℕ, ◌+◌, ◌/◌, List, [], Some, length, slice_get, unwrap_or}
use Rattle.lft_graph.specs.{Sets.Has, Counts.Count}
use Rattle.lft_ir.specs.declared.steps.row.Row.{Row}
use Rattle.lft_counts.specs.{declared.overlaps.Overlaps.Overlaps, Counts.{AreCounts, Runs, MeetsRun, Widens}}

-- the set of the reactions that had an open run when a run of reaction r started
abbrev pub met_by : Overlaps → ℕ → List ℕ
met_by overlaps r = unwrap_or (slice_get overlaps.met.items r) []

-- the set of each reaction b has just the reactions that had an open run when b started, before place i
pub record AreMet (t : List Row) (m i : ℕ) (met : List (List ℕ)) : Type 0 where
  pub as_long : length met ≡ m
  pub room : (b : ℕ) (set : List ℕ) → slice_get met b ≡ Some set → length set ≡ m / 64 + 1
  pub right : (b : ℕ) (set : List ℕ) → slice_get met b ≡ Some set → (a : ℕ) → Has set a ↔ MeetsRun t i a b

-- the set has just the reactions with an open run before place i, and many is their number
pub record AreReactionsOpen (t : List Row) (m i : ℕ) (set : List ℕ) (many : ℕ) : Type 0 where
  pub room : length set ≡ m / 64 + 1
  pub right : (r : ℕ) → Has set r ↔ Runs t i r
  pub number : Count (Runs t i) m many

-- of each number the starts before place i that left so many of m reactions with an open run
pub record AreWidthCounts (t : List Row) (m i : ℕ) (widths : List ℕ) : Type 0 where
  pub as_long : length widths ≡ m + 1
  pub right : AreCounts (Widens t m) i widths

-- what is kept of the rows before place i, in a program of m reactions
pub record Overlap (t : List Row) (m i : ℕ) (overlaps : Overlaps) : Type 0 where
  pub running : AreReactionsOpen t m i overlaps.running overlaps.many
  pub met : AreMet t m i overlaps.met.items
  pub widths : AreWidthCounts t m i overlaps.widths
