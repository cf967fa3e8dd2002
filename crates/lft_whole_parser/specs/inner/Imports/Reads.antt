-- Inside: what is read of a text: its tree, or why it has none.
use Rattle.std.specs.Prelude.{ℕ, List, Option, Some, None}
use Rattle.lft_whole.specs.declared.{tree.File.File, sources.source.Spot.Spot}
use Rattle.lft_whole_parser.specs.{declared.imports.reading.{NoTree.NoTree, Text.Text}, Imports.Reads.{HasTree, HasNoFileTree}}

-- ---- for the crate's own contracts
-- The text has this tree, if it isn't refused; else it has none.
abbrev pub IsReadAs : List ℕ → List Spot → File → Option NoTree → Type 0
IsReadAs t spots tree None = HasTree t spots tree
IsReadAs t spots tree (Some refused) = HasNoFileTree t spots refused.token refused.why

-- This is read of the text.
abbrev pub IsRead : List ℕ → Text → Type 0
IsRead t read = IsReadAs t read.spots.items read.tree read.refused
