-- Where single connections stand. The contracts of the crate's own functions alone need this file.
use Rattle.std.specs.Prelude.{◌≡◌, ℕ, Some, slice_get}
use Rattle.lft_tree.specs.Tree.{ConnectionTree}
use Rattle.lft_resolve.specs.inner.Sheets.{Single}

-- the single connection is of this connection, and both its names stand there at that place
pub record IsSingleAt (s : Single) (c : ConnectionTree) (place : ℕ) : Type 0 where
  pub is_from : slice_get c.sources place ≡ Some s.from
  pub is_to : slice_get c.destinations place ≡ Some s.to
  pub is_delay : c.delay ≡ s.delay
