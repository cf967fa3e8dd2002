use Rattle.std.proofs.Common.{◌≡◌, filter_map, take}
use Rattle.lft_tree.specs.{Tree.timer_in, View.member_views}
use Rattle.lft_resolve.specs.inner.References.{timer_trees}
use Rattle.lft_resolve.proofs.members.timers.Given as goal

abbrev pub invariant-loop-member : goal.invariant-loop-member
invariant-loop-member l = timer_trees l.found.items ≡ filter_map timer_in (member_views (take l.member-index l.members))
