-- How many runs of a trace stand before another one.
use Rattle.std.specs.Prelude.{◌≡◌, ℕ, ◌+◌, ◌<◌, ◌⊎◌, List, [], ◌∷◌}
use Rattle.lft_tag.specs.{declared.Tag.Tag, Tags.Before}
use Rattle.lft_ir.specs.{Parts.Parts, declared.steps.row.{Row.Row, Step.TheVariants.Start}}
use Rattle.lft_model.specs.Recorded.{instance_of}

-- so many of the rows have a property
pub data Counts (P : Row → Type 0) : List Row → ℕ → Type 0 where
  no_row : Counts P [] 0
  one_more : {row : Row} {rows : List Row} {n : ℕ} → P row → Counts P rows n → Counts P (row ∷ rows) (n + 1)
  passed : {row : Row} {rows : List Row} {n : ℕ} → ¬ P row → Counts P rows n → Counts P (row ∷ rows) n

-- the row starts a run before g
abbrev pub StartsBefore : Tag → Row → Type 0
StartsBefore g row = (row.step ≡ Start) × Before row.tag g

-- the row starts a run of r's instance, before g or at g with a lesser number than r
pub record StartsEarlier (program : Parts) (g : Tag) (r : ℕ) (row : Row) : Type 0 where
  pub starts : row.step ≡ Start
  pub same_instance : instance_of program row.reaction ≡ instance_of program r
  pub earlier : Before row.tag g ⊎ ((row.tag ≡ g) × (row.reaction < r))
