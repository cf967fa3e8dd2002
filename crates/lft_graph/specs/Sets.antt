-- What precedes each reaction, as sets.
use Rattle.std.specs.Prelude.{◌≡◌, ℕ, ◌/◌, ◌%◌, List, slice_index}
use Rattle.std.specs.Int.{bit_at}

-- reaction r is in the set of these words
abbrev pub Has : List ℕ → ℕ → Type 0
Has words r = bit_at (slice_index words (r / 64)) (r % 64) ≡ 1
