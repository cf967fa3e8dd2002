-- Inside: the runs of a trace by tag.
use Rattle.std.specs.Prelude.{◌≡◌, ℕ, ◌+◌, ◌<◌, ◌≤◌, List, length, Some, slice_get}
use Rattle.lft_tag.specs.declared.Tag.{Tag}
use Rattle.lft_ir.specs.declared.steps.row.Row.{Row}
use Rattle.lft_model.specs.{Runs.{start_row, end_row, Ran}, Accepted.AreTags}
use Rattle.lft_rows.specs.declared.slices.Slice.{Slice}
use Rattle.lft_slices.specs.{declared.pieces.{Piece.Piece, Pieces.Pieces}, Pieces.IsRunPiece}

-- what follows serves the proof that a cut has the runs
-- for each reaction that ends in a row of the slice before place i, the place of that row
abbrev pub AreEndsTo : List Row → Slice → ℕ → List ℕ → Type 0
AreEndsTo t s i ends = (j w r : ℕ) → s.first ≤ j → j < i → slice_get t j ≡ Some (end_row w s.tag r) → slice_get ends r ≡ Some j

-- the runs that start in the rows of the slice before place i, each once
pub record AreStartsTo (t : List Row) (s : Slice) (i : ℕ) (pieces : List Piece) : Type 0 where
  pub is_run : (k : ℕ) (x : Piece) → slice_get pieces k ≡ Some x → IsRunPiece t s.tag x × (x.start < i)
  pub each : (j w r : ℕ) → s.first ≤ j → j < i → slice_get t j ≡ Some (start_row w s.tag r) → (k : ℕ) × (x : Piece) × (slice_get pieces k ≡ Some x) × (x.reaction ≡ r)
  pub apart : (j k : ℕ) (x y : Piece) → slice_get pieces j ≡ Some x → slice_get pieces k ≡ Some y → x.reaction ≡ y.reaction → j ≡ k

-- the pieces from place a up to, without, place b of a list are the runs at g, by reaction number
pub record AreRunsIn (t : List Row) (g : Tag) (pieces : List Piece) (a b : ℕ) : Type 0 where
  pub order : a ≤ b
  pub within : b ≤ length pieces
  pub ascending : (j k : ℕ) (x y : Piece) → a ≤ j → j < k → k < b → slice_get pieces j ≡ Some x → slice_get pieces k ≡ Some y → x.reaction < y.reaction
  pub is_run : (k : ℕ) (x : Piece) → a ≤ k → k < b → slice_get pieces k ≡ Some x → IsRunPiece t g x
  pub each : (r : ℕ) → Ran t g r → (k : ℕ) × (x : Piece) × (a ≤ k) × (k < b) × (slice_get pieces k ≡ Some x) × (x.reaction ≡ r)

-- the pieces of the first k slices, those of a slice side by side: firsts tells where those at each tag begin
pub record ArePiecesTo (t : List Row) (slices : List Slice) (k : ℕ) (tags : List Tag) (firsts : List ℕ) (pieces : List Piece) : Type 0 where
  pub count : length tags ≡ k
  pub as_long : length firsts ≡ k + 1
  pub last : slice_get firsts k ≡ Some (length pieces)
  pub tagged : (j : ℕ) (g : Tag) → slice_get tags j ≡ Some g → (s : Slice) × (slice_get slices j ≡ Some s) × (s.tag ≡ g)
  pub runs : (j a b : ℕ) (g : Tag) → slice_get tags j ≡ Some g → slice_get firsts j ≡ Some a → slice_get firsts (j + 1) ≡ Some b → AreRunsIn t g pieces a b

-- what is kept of the runs by tag is right for the rows
pub record ArePieces (t : List Row) (kept : Pieces) : Type 0 where
  pub are_tags : AreTags t kept.tags.items
  pub as_long : length kept.firsts.items ≡ length kept.tags.items + 1
  pub runs : (j a b : ℕ) (g : Tag) → slice_get kept.tags.items j ≡ Some g → slice_get kept.firsts.items j ≡ Some a → slice_get kept.firsts.items (j + 1) ≡ Some b → AreRunsIn t g kept.list.items a b
