use Rattle.std.proofs.Common.{◌≡◌, ◌++◌, filter_map, take}
use Rattle.lft_tree.specs.View.{member_views}
use Rattle.lft_resolve.specs.inner.Tests.{name_in, texts}
use Rattle.lft_resolve.proofs.names.push_names.Given as goal

abbrev pub invariant-loop-member : goal.invariant-loop-member
invariant-loop-member l = texts l.names.items ≡ texts l.initial.names.items ++ filter_map (name_in l.kind) (member_views (take l.member-index l.members))
