use Rattle.std.proofs.Common.{◌≡◌, length}
use Rattle.lft_races.specs.inner.Runs.{HaveRunBefore}
use Rattle.lft_races.proofs.runs.runs_at.Given as goal

abbrev pub invariant-loop-place : goal.invariant-loop-place
invariant-loop-place l = (length l.ran.items ≡ l.reactions) × HaveRunBefore l.rows l.tag l.place l.ran.items
