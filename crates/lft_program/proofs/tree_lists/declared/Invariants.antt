use Rattle.std.proofs.Common.{◌≡◌, map, take}
use Rattle.lft_program.specs.inner.{OwnNames.name_lists, TreeLists.{name_at, seen}}
use Rattle.lft_program.proofs.tree_lists.declared.Given as goal

abbrev pub invariant-loop-thing : goal.invariant-loop-thing
invariant-loop-thing l = map seen l.declared.items ≡ map (λ t. (t.instance, name_at (name_lists l.names) l.instances t.instance t.place)) (take l.thing-index l.things)
