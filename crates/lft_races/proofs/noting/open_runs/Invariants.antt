use Rattle.std.proofs.Common.{◌≡◌, ◌+◌, ◌/◌, length}
use Rattle.lft_races.specs.inner.Noted.{HasOpenReactions}
use Rattle.lft_races.proofs.noting.open_runs.Given as goal

abbrev pub invariant-loop-place : goal.invariant-loop-place
invariant-loop-place l = (length l.left ≡ length l.ends / 64 + 1) × HasOpenReactions l.rows l.slice l.place l.left
