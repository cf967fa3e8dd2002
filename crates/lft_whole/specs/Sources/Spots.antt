-- Where tokens of a file begin, for people.
use Rattle.std.specs.Prelude.{ℕ, List, slice_get, unwrap_or}
use Rattle.lft_whole.specs.declared.sources.source.Spot.{Spot}

-- Where the token of that number begins; of one that isn't there, the first line and column.
abbrev pub spot_at : List Spot → ℕ → Spot
spot_at spots token = unwrap_or (slice_get spots token) (record { line = 1; column = 1 })
