use Rattle.std.proofs.Common.{◌≡◌, filter_map, take}
use Rattle.lft_tree.specs.{Tree.instance_in, View.member_views}
use Rattle.lft_resolve.specs.inner.References.{instance_trees}
use Rattle.lft_resolve.proofs.members.instances.Given as goal

abbrev pub invariant-loop-member : goal.invariant-loop-member
invariant-loop-member l = instance_trees l.found.items ≡ filter_map instance_in (member_views (take l.member-index l.members))
