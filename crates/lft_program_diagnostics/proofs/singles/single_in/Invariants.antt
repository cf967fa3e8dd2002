use Rattle.std.proofs.Common.{◌≡◌, ◌+◌, length, take}
use Rattle.lft_tree.specs.View.{member_views}
use Rattle.lft_program_diagnostics.proofs.Numbered.{singles_among}
use Rattle.lft_program_diagnostics.proofs.singles.single_in.Given as goal

abbrev pub invariant-loop-member : goal.invariant-loop-member
invariant-loop-member l = length (singles_among (take l.member (member_views l.reactor.members.items))) + l.left ≡ l.number
