-- Inside: the facts of `--list`, one a line.
use Rattle.std.specs.Prelude.{◌≡◌, ℕ, ◌+◌, ◌/◌, Some, length, List, slice_get}
use Rattle.lft_ir.specs.Parts.{Parts}
use Rattle.lft_counts.specs.declared.{cover.Cover.Cover, overlaps.Overlaps.Overlaps}

-- each reaction of the program has a set, with room for all of them
pub record HasSets (program : Parts) (overlaps : Overlaps) : Type 0 where
  pub as_long : length overlaps.met.items ≡ length program.reactions
  pub room : (r : ℕ) (set : List ℕ) → slice_get overlaps.met.items r ≡ Some set → length set ≡ length program.reactions / 64 + 1

-- the cover has a count for each reaction and port of the program, and a set with room for all reactions for each reaction
pub record HasCounts (program : Parts) (cover : Cover) : Type 0 where
  pub reactions : length cover.counting.runs ≡ length program.reactions
  pub ports : length cover.counting.writes ≡ length program.ports
  pub met : HasSets program cover.overlaps
