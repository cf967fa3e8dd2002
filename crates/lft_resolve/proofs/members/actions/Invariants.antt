use Rattle.std.proofs.Common.{◌≡◌, filter_map, take}
use Rattle.lft_tree.specs.{Tree.action_in, View.member_views}
use Rattle.lft_resolve.specs.inner.References.{action_trees}
use Rattle.lft_resolve.proofs.members.actions.Given as goal

abbrev pub invariant-loop-member : goal.invariant-loop-member
invariant-loop-member l = action_trees l.found.items ≡ filter_map action_in (member_views (take l.member-index l.members))
