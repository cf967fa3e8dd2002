use Rattle.std.proofs.Common.{◌≡◌, ℕ, ◌<◌, length, slice_get}
use Rattle.lft_graph.specs.inner.Walks.{turned}
use Rattle.lft_graph.proofs.loops.turned_back.Given as goal

abbrev pub invariant-steps : goal.invariant-steps
invariant-steps l = (length l.items.items ≡ l.step) × ((t : ℕ) → t < l.step → slice_get l.items.items t ≡ slice_get l.circle (turned l.place (length l.circle) t))
