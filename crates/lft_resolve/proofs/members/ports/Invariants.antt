use Rattle.std.proofs.Common.{◌≡◌, filter_map, take}
use Rattle.lft_tree.specs.{Tree.port_in, View.member_views}
use Rattle.lft_resolve.specs.inner.References.{port_trees}
use Rattle.lft_resolve.proofs.members.ports.Given as goal

abbrev pub invariant-loop-member : goal.invariant-loop-member
invariant-loop-member l = port_trees l.found.items ≡ filter_map port_in (member_views (take l.member-index l.members))
