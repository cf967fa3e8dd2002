use Rattle.std.proofs.Common.{ℕ, ◌<◌}
use Rattle.lft_races.specs.Across.{ReadsAt}
use Rattle.lft_races.proofs.ordering.first_read.Given as goal

abbrev pub invariant-loop-other : goal.invariant-loop-other
invariant-loop-other l = (k : ℕ) → k < l.other → ¬ ReadsAt l.rows l.tag l.reaction l.name k
