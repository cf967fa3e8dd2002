-- The runs of a trace by tag.
use Rattle.std.specs.Prelude.{◌≡◌, ℕ, ◌<◌, List, Some, slice_get}
use Rattle.lft_tag.specs.declared.Tag.{Tag}
use Rattle.lft_ir.specs.declared.steps.row.Row.{Row}
use Rattle.lft_model.specs.{Runs.{start_row, end_row, Ran}, Accepted.AreTags}
use Rattle.lft_slices.specs.declared.pieces.Piece.{Piece}

-- the piece tells the places of the start row and of the end row of its reaction's run at g
pub record IsRunPiece (t : List Row) (g : Tag) (x : Piece) : Type 0 where
  pub worker : ℕ
  pub starts : slice_get t x.start ≡ Some (start_row worker g x.reaction)
  pub ends : slice_get t x.end ≡ Some (end_row worker g x.reaction)

-- the runs at g, by reaction number
pub record AreRuns (t : List Row) (g : Tag) (pieces : List Piece) : Type 0 where
  pub ascending : (j k : ℕ) (x y : Piece) → j < k → slice_get pieces j ≡ Some x → slice_get pieces k ≡ Some y → x.reaction < y.reaction
  pub is_run : (k : ℕ) (x : Piece) → slice_get pieces k ≡ Some x → IsRunPiece t g x
  pub each : (r : ℕ) → Ran t g r → (k : ℕ) × (x : Piece) × (slice_get pieces k ≡ Some x) × (x.reaction ≡ r)

-- g is the k-th of the tags with a run, counted from 0
abbrev pub IsTagAt : List Row → ℕ → Tag → Type 0
IsTagAt t k g = (tags : List Tag) × AreTags t tags × (slice_get tags k ≡ Some g)
