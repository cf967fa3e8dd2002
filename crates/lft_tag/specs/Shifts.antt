-- A chain of delays folded into one pair of numbers, and what the pair does to a tag.
use Rattle.std.specs.Prelude.{ℕ, zero, suc, ◌+◌, ◌≤◌, List, [], ◌∷◌}
use Rattle.lft_tag.specs.declared.Tag.{Tag}

-- time and steps
abbrev pub Folded : Type 0
Folded = ℕ × ℕ

-- no delay at all
abbrev pub none : Folded
none = (0, 0)

-- one more delay at the end of the chain
abbrev pub join : Folded → ℕ → Folded
join s zero = (s.0, s.1 + 1)
join s (suc d) = (s.0 + suc d, 0)

-- more delays, one after another
abbrev pub join_all : Folded → List ℕ → Folded
join_all s [] = s
join_all s (d ∷ ds) = join_all (join s d) ds

-- within the limits of a chain: 10^18 nanoseconds and 100,000 microsteps
abbrev pub HasRoom : Folded → Type 0
HasRoom s = (s.0 ≤ 1000000000000000000) × (s.1 ≤ 100000)

-- a tag moved by a time and steps: where no time is added the microsteps add up, else the steps start at 0
abbrev pub moved : Tag → ℕ → ℕ → Tag
moved g zero steps = record { time = g.time; micro = g.micro + steps }
moved g (suc d) steps = record { time = g.time + suc d; micro = steps }

-- a tag moved by a folded chain
abbrev pub shifted : Tag → Folded → Tag
shifted g s = moved g s.0 s.1
