use Rattle.std.proofs.Common.{ℕ, ◌<◌}
use Rattle.lft_races.specs.Runs.{IsOpenSince}
use Rattle.lft_races.proofs.ordering.open_start.Given as goal

abbrev pub invariant-loop-start : goal.invariant-loop-start
invariant-loop-start l = (k : ℕ) → k < l.start → ¬ IsOpenSince l.rows l.place l.worker k
