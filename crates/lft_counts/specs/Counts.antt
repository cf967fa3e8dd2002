-- What the counts of a trace are: at how many of its places something holds.
use Rattle.std.specs.Prelude.{◌≡◌, ℕ, ◌+◌, ◌<◌, List, Some, slice_get}
use Rattle.lft_tag.specs.declared.Tag.{Tag}
use Rattle.lft_ir.specs.declared.{parts.{Value.Value, Name.TheVariants.Port}, steps.row.{Row.Row, Step.TheVariants.Write}}
use Rattle.lft_graph.specs.Counts.{Count}
use Rattle.lft_model.specs.{Breaches.IsOpen, Runs.start_row}

-- the count of each number x is that of the places below i at which P x holds
abbrev pub AreCounts : (ℕ → ℕ → Type 0) → ℕ → List ℕ → Type 0
AreCounts P i counts = (x n : ℕ) → slice_get counts x ≡ Some n → Count (P x) i n

-- the row at place i starts a run of reaction r
abbrev pub StartsRun : List Row → ℕ → ℕ → Type 0
StartsRun t r i = (w : ℕ) × (g : Tag) × (slice_get t i ≡ Some (start_row w g r))

-- the row at place i starts a run by worker w
abbrev pub StartsBy : List Row → ℕ → ℕ → Type 0
StartsBy t w i = (g : Tag) × (r : ℕ) × (slice_get t i ≡ Some (start_row w g r))

-- the row at place i writes port p
abbrev pub WritesAt : List Row → ℕ → ℕ → Type 0
WritesAt t p i = (row : Row) × (v : Value) × (slice_get t i ≡ Some row) × (row.step ≡ Write (Port p) v)

-- reaction r has an open run before place i
abbrev pub Runs : List Row → ℕ → ℕ → Type 0
Runs t i r = (w : ℕ) × (g : Tag) × IsOpen t i w g r

-- at a place before i a run of reaction b starts while a has an open run
abbrev pub MeetsRun : List Row → ℕ → ℕ → ℕ → Type 0
MeetsRun t i a b = (j : ℕ) × StartsRun t b j × Runs t j a × (j < i)

-- the row at place i starts a run, and so many of m reactions have an open run behind it
abbrev pub Widens : List Row → ℕ → ℕ → ℕ → Type 0
Widens t m n i = (r : ℕ) × StartsRun t r i × Count (Runs t (i + 1)) m n

-- the count at place k isn't 0
abbrev pub IsOver : List ℕ → ℕ → Type 0
IsOver counts k = (n : ℕ) × (slice_get counts k ≡ Some n) × (0 < n)
