-- Pairs of reactions.
use Rattle.std.specs.Prelude.{ℕ, ◌⊎◌, List}
use Rattle.lft_ir.specs.declared.steps.row.Row.{Row}
use Rattle.lft_counts.specs.Counts.{MeetsRun}

-- a run of one of two reactions starts, at a place before i, while the other has an open run
abbrev pub AreOpenTogether : List Row → ℕ → ℕ → ℕ → Type 0
AreOpenTogether t i a b = MeetsRun t i a b ⊎ MeetsRun t i b a
