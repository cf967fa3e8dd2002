-- Inside: pairs of reactions.
use Rattle.std.specs.Prelude.{ℕ, ◌<◌, ◌⊎◌}
use Rattle.lft_graph.specs.Sets.{Has}
use Rattle.lft_counts.specs.{declared.overlaps.Overlaps.Overlaps, Overlaps.met_by}

-- one of two reactions is kept as met by the other
abbrev pub HaveMet : Overlaps → ℕ → ℕ → Type 0
HaveMet overlaps a b = Has (met_by overlaps b) a ⊎ Has (met_by overlaps a) b

-- a pair that met is counted with b: b met a, and where a met b too, a is the lesser
abbrev pub IsCountedWith : Overlaps → ℕ → ℕ → Type 0
IsCountedWith overlaps a b = Has (met_by overlaps b) a × ((a < b) ⊎ (Has (met_by overlaps a) b → ⊥))
