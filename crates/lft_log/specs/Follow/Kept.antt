-- What is kept of a log that is read.
use Rattle.std.specs.Prelude.{◌≡◌, ◌⊎◌, ◌<◌, ◌^◌, ℕ, List, ◌++◌, length}
use Rattle.std.specs.Global.{Vec}
use Rattle.lft_log.specs.declared.follow.kept.Kept.{Kept, TheVariants.{All, Nothing, TooLong}}

-- what is kept is all that was kept and these bytes behind it; or too much came, 2^30 bytes or so many rows; or it is nothing
abbrev pub IsKeptOn : Type 0 → Kept → Kept → List ℕ → Type 0
IsKeptOn ManyRows old (All v) bytes = (u : Vec ℕ) × (old ≡ All u) × (v.items ≡ u.items ++ bytes)
IsKeptOn ManyRows old TooLong bytes = (old ≡ TooLong) ⊎ (u : Vec ℕ) × (old ≡ All u) × ((2 ^ 30 < length (u.items ++ bytes)) ⊎ ManyRows)
IsKeptOn ManyRows old Nothing bytes = Unit {0}
