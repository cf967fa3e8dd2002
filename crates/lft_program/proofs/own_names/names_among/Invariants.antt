use Rattle.std.proofs.Common.{◌≡◌, filter_map, take}
use Rattle.lft_tree.specs.View.{member_views}
use Rattle.lft_resolve.specs.inner.Tests.{texts}
use Rattle.lft_program.specs.inner.OwnNames.{name_in}
use Rattle.lft_program.proofs.own_names.names_among.Given as goal

abbrev pub invariant-loop-member : goal.invariant-loop-member
invariant-loop-member l = texts l.names.items ≡ filter_map (name_in l.kind) (member_views (take l.member-index l.members))
