-- Inside: which channels a reference stands for, and which are joined, by number.
use Rattle.std.specs.Prelude.{ℕ, ◌%◌, Bool, true, false, List, map, flat_map, min, if◌then◌else◌, ◌==◌}
use Rattle.lft_elaborate.specs.Channels.Channels.{below}

-- a member of a bank, and a channel of its multiport
abbrev pub Place : Type 0
Place = ℕ × ℕ

-- the channels of a bank's multiport in order: members outermost, or channels where they are interleaved
abbrev pub places : ℕ → ℕ → Bool → List Place
places members channels false = flat_map (λ m. map (λ c. (m, c)) (below channels)) (below members)
places members channels true = flat_map (λ c. map (λ m. (m, c)) (below members)) (below channels)

-- how many channels are joined
abbrev pub joined : ℕ → ℕ → Bool → ℕ
joined left right false = min left right
joined left right true = if left == 0 then 0 else right

-- which channel on the left is joined to the one of this number on the right
abbrev pub left_channel : ℕ → Bool → ℕ → ℕ
left_channel left false k = k
left_channel left true k = k % left
