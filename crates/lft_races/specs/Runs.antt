-- Where runs start, end and are open, and which reactions run at a tag.
use Rattle.std.specs.Prelude.{◌≡◌, ℕ, ◌<◌, List, Some, slice_get}
use Rattle.lft_tag.specs.declared.Tag.{Tag}
use Rattle.lft_ir.specs.declared.steps.row.Row.{Row}
use Rattle.lft_model.specs.Runs.{start_row, end_row}

-- the row at place p starts a run of r at g
abbrev pub StartsAt : List Row → Tag → ℕ → ℕ → Type 0
StartsAt t g r p = (w : ℕ) × (slice_get t p ≡ Some (start_row w g r))

-- the row at place p ends a run of r at g
abbrev pub EndsAt : List Row → Tag → ℕ → ℕ → Type 0
EndsAt t g r p = (w : ℕ) × (slice_get t p ≡ Some (end_row w g r))

-- before place i worker w has an open run that it started in the row at place j
pub record IsOpenSince (t : List Row) (i w j : ℕ) : Type 0 where
  pub tag : Tag
  pub reaction : ℕ
  pub before : j < i
  pub starts : slice_get t j ≡ Some (start_row w tag reaction)
  pub not_ended : (k : ℕ) → j < k → k < i → ¬ (slice_get t k ≡ Some (end_row w tag reaction))
