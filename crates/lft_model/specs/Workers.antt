-- How many workers there may be.
use Rattle.std.specs.Prelude.{ℕ, ◌≤◌}

-- a lawful number of workers: 1 to 64
abbrev pub IsWorkers : ℕ → Type 0
IsWorkers n = (1 ≤ n) × (n ≤ 64)
