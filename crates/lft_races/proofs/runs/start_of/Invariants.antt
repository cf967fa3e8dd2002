use Rattle.std.proofs.Common.{ℕ, ◌<◌}
use Rattle.lft_races.specs.Runs.{StartsAt}
use Rattle.lft_races.proofs.runs.start_of.Given as goal

abbrev pub invariant-loop-place : goal.invariant-loop-place
invariant-loop-place l = (k : ℕ) → k < l.place → ¬ StartsAt l.rows l.tag l.reaction k
