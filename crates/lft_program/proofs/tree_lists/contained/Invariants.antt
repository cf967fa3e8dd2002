use Rattle.std.proofs.Common.{◌≡◌, map, take}
use Rattle.lft_program.specs.inner.{OwnNames.name_lists, TreeLists.{name_at, seen}}
use Rattle.lft_program.proofs.tree_lists.contained.Given as goal

abbrev pub invariant-loop-inner : goal.invariant-loop-inner
invariant-loop-inner l = map seen l.declared.items ≡ map (λ i. (i.parent, name_at (name_lists l.names) l.instances i.parent i.place)) (take l.inner-index l.instances)
