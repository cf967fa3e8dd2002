use Rattle.std.proofs.Common.{◌≡◌, filter_map, take}
use Rattle.lft_tree.specs.{Tree.connection_in, View.member_views}
use Rattle.lft_resolve.specs.inner.References.{connection_trees}
use Rattle.lft_resolve.proofs.members.connections.Given as goal

abbrev pub invariant-loop-member : goal.invariant-loop-member
invariant-loop-member l = connection_trees l.found.items ≡ filter_map connection_in (member_views (take l.member-index l.members))
