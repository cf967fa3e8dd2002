use Rattle.std.proofs.Common.{ℕ, ◌<◌, ◌≤◌, ◌*◌, ◌/◌, ◌-◌}
use Rattle.lft_graph.specs.Sets.{Has}
use Rattle.lft_scheduler.proofs.turn.frees.least_below.Given as goal

abbrev pub invariant-words : goal.invariant-words
invariant-words l = (l.word ≤ l.bound / 64) × ((y : ℕ) → y < l.word * 64 → ¬ Has l.set y)

abbrev pub decreases-words : goal.decreases-words
decreases-words l = l.bound / 64 - l.word

abbrev pub invariant-numbers : goal.invariant-numbers
invariant-numbers l = (y : ℕ) → y < l.number → ¬ Has l.set y
