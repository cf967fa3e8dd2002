-- Inside: which row starts the run of another one or starts it again, what a run read, and which runs are open across a later tag.
use Rattle.std.specs.Prelude.{◌≡◌, ℕ, List, Some, slice_get}
use Rattle.lft_ir.specs.declared.steps.row.Row.{Row}
use Rattle.lft_races.specs.Runs.{StartsAt, IsOpenSince}

-- the row at place j starts the run of the one at place i, and it is open there
pub record OpensRun (t : List Row) (i j : ℕ) : Type 0 where
  pub row : Row
  pub is_row : slice_get t i ≡ Some row
  pub starts : StartsAt t row.tag row.reaction j
  pub open_since : IsOpenSince t i row.worker j
