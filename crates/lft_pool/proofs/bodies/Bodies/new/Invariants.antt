use Rattle.std.proofs.Common.{◌≡◌, ◌<◌, ℕ, length, slice_index_or}
use Rattle.lft_pool.proofs.bodies.Bodies.new.Given as goal

abbrev pub invariant-loop-reaction : goal.invariant-loop-reaction
invariant-loop-reaction g l = (length l.lists.items ≡ l.reaction) × ((r : ℕ) (d : _) → r < length l.lists.items → ((slice_index_or l.lists.items r d).0 ≡ r) × ((slice_index_or l.lists.items r d).1 ≡ 0))
