use Rattle.std.proofs.Common.{◌≡◌, filter_map, take}
use Rattle.lft_tree.specs.{Tree.reactor_in, View.item_views}
use Rattle.lft_resolve.specs.inner.References.{reactor_trees}
use Rattle.lft_resolve.proofs.members.reactors.Given as goal

abbrev pub invariant-loop-item : goal.invariant-loop-item
invariant-loop-item l = reactor_trees l.found.items ≡ filter_map reactor_in (item_views (take l.item-index l.items))
