-- What a reaction reads at the tag at hand, by what is kept.
use Rattle.std.specs.Prelude.{◌≡◌, ℕ, List, [], Option, None, MatchOption, Contains, filter_map}
use Rattle.std.specs.List.{last_or}
use Rattle.lft_tag.specs.declared.Tag.{Tag}
use Rattle.lft_ir.specs.declared.{parts.Value.Value, steps.row.Row.Row}
use Rattle.lft_model.specs.Presence.{written}
use Rattle.lft_queue.specs.inner.Coming.Lanes.{held}

-- a value that a lane's queue has at the tag, or that it has none there
abbrev pub IsInLane : List (Tag × Value) → Tag → Option Value → Type 0
IsInLane queue g o = MatchOption o (held queue g ≡ []) (λ v. Contains (held queue g) v)

-- the last value that the rows at the tag write to a port, if any
abbrev pub last_write : List Row → Tag → ℕ → Option Value
last_write u g o = last_or None (filter_map (written g o) u)
