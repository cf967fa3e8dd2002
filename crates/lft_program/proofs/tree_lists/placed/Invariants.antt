use Rattle.std.proofs.Common.{◌≡◌, map, take}
use Rattle.lft_program.specs.inner.TreeLists.{placed_at}
use Rattle.lft_program.proofs.tree_lists.placed.Given as goal

abbrev pub invariant-loop-thing : goal.invariant-loop-thing
invariant-loop-thing l = l.placed.items ≡ map placed_at (take l.thing-index l.things)
