-- Tags: their order, and where a delay takes them.
use Rattle.std.specs.Prelude.{◌≡◌, ℕ, zero, suc, ◌+◌, ◌<◌, ◌≤◌, ◌⊎◌, List, [], ◌∷◌, Bool, cond, ltb, ◌==◌, ◌&&◌, ◌||◌}
use Rattle.lft_tag.specs.declared.Tag.{Tag}

-- a tag that a trace may hold: time at most 10^18, microstep at most 10^9 (ours)
abbrev pub IsRecorded : Tag → Type 0
IsRecorded g = (g.time ≤ 1000000000000000000) × (g.micro ≤ 1000000000)

-- g is an earlier tag than h: by time, then by microstep (handbook)
abbrev pub Before : Tag → Tag → Type 0
Before g h = (g.time < h.time) ⊎ ((g.time ≡ h.time) × (g.micro < h.micro))

-- g is h or an earlier tag
abbrev pub UpTo : Tag → Tag → Type 0
UpTo g h = (g.time < h.time) ⊎ ((g.time ≡ h.time) × (g.micro ≤ h.micro))

-- the test of two tags being the same
abbrev pub same_tag : Tag → Tag → Bool
same_tag g h = (g.time == h.time) && (g.micro == h.micro)

-- the test of g being an earlier tag than h
abbrev pub is_before : Tag → Tag → Bool
is_before g h = ltb g.time h.time || ((g.time == h.time) && ltb g.micro h.micro)

-- the earlier of two tags
abbrev pub earlier : Tag → Tag → Tag
earlier g h = cond (is_before g h) g h

-- the earliest of a tag and some more
abbrev pub earliest : Tag → List Tag → Tag
earliest g [] = g
earliest g (h ∷ hs) = earlier h (earliest g hs)

-- one delay: a positive one adds to the time and takes the microstep to 0, a delay of 0 adds a microstep (handbook)
abbrev pub after : Tag → ℕ → Tag
after g zero = record { time = g.time; micro = g.micro + 1 }
after g (suc d) = record { time = g.time + suc d; micro = 0 }

-- several delays, one after another (ours)
abbrev pub after_all : Tag → List ℕ → Tag
after_all g [] = g
after_all g (d ∷ ds) = after_all (after g d) ds
