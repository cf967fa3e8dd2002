use Rattle.std.proofs.Common.{◌≡◌, length}
use Rattle.lft_races.specs.inner.Noted.{AreNoted}
use Rattle.lft_races.proofs.noting.note_ends.Given as goal

abbrev pub invariant-loop-place : goal.invariant-loop-place
invariant-loop-place l = (length l.ends ≡ length l.initial.ends) × AreNoted l.rows l.slice l.place l.ends
