use Rattle.std.proofs.Common.{ℕ, ◌<◌}
use Rattle.lft_races.specs.Runs.{StartsAt}
use Rattle.lft_races.proofs.hints.rows.is_second.Given as goal

abbrev pub invariant-loop-earlier : goal.invariant-loop-earlier
invariant-loop-earlier l = (j : ℕ) → j < l.earlier → ¬ StartsAt l.rows l.row.tag l.row.reaction j
