use Rattle.std.proofs.Common.{ℕ, ◌<◌}
use Rattle.lft_races.specs.Runs.{StartsAt}
use Rattle.lft_races.proofs.ordering.first_start.Given as goal

abbrev pub invariant-loop-other : goal.invariant-loop-other
invariant-loop-other l = (k : ℕ) → k < l.other → ¬ StartsAt l.rows l.tag l.reaction k
