use Rattle.std.proofs.Common.{ℕ, ◌<◌}
use Rattle.lft_races.specs.inner.Across.{OpensRun}
use Rattle.lft_races.proofs.ordering.own_start.Given as goal

abbrev pub invariant-loop-start : goal.invariant-loop-start
invariant-loop-start l = (m : ℕ) → m < l.start → ¬ OpensRun l.rows l.place m
