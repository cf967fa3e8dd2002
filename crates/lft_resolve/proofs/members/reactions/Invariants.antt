use Rattle.std.proofs.Common.{◌≡◌, filter_map, take}
use Rattle.lft_tree.specs.{Tree.reaction_in, View.member_views}
use Rattle.lft_resolve.specs.inner.References.{reaction_trees}
use Rattle.lft_resolve.proofs.members.reactions.Given as goal

abbrev pub invariant-loop-member : goal.invariant-loop-member
invariant-loop-member l = reaction_trees l.found.items ≡ filter_map reaction_in (member_views (take l.member-index l.members))
