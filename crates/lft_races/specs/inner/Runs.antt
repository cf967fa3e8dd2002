-- Inside: where runs start, end and are open, and which reactions run at a tag.
use Rattle.std.specs.Prelude.{◌≡◌, ◌↔◌, ℕ, ◌<◌, Bool, true, List, Some, slice_get}
use Rattle.lft_tag.specs.declared.Tag.{Tag}
use Rattle.lft_ir.specs.declared.steps.row.Row.{Row}
use Rattle.lft_model.specs.Runs.{Ran}
use Rattle.lft_races.specs.Runs.{StartsAt}

-- of each reaction whether it has a run at g, by the rows before place i
abbrev pub HaveRunBefore : List Row → Tag → ℕ → List Bool → Type 0
HaveRunBefore t g i ran = (r : ℕ) → (slice_get ran r ≡ Some true) ↔ ((j : ℕ) × (j < i) × StartsAt t g r j)

-- of each reaction whether it has a run at g
abbrev pub HaveRun : List Row → Tag → List Bool → Type 0
HaveRun t g ran = (r : ℕ) → (slice_get ran r ≡ Some true) ↔ Ran t g r
