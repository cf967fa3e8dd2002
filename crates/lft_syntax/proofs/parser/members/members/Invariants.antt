use Rattle.std.proofs.Common.{◌-◌, ◌≤◌, length}
use Rattle.lft_tree.specs.View.{member_views}
use Rattle.lft_syntax.{specs.{inner.{Reading.{is_inside, member_at, members_at}, Parsing.words}, Language.many}, proofs.Loop.SoFar}
use Rattle.lft_syntax.specs.Placed as Placed
use Rattle.lft_syntax.proofs.parser.members.members.Given as goal

abbrev pub invariant-list : goal.invariant-list
invariant-list l =
    (l.next ≤ length (words l.input)) × SoFar is_inside member_at (words l.input) (member_views l.members.items) l.next (members_at (words l.input) l.fn.at)
    × many Placed.member (words l.input) l.fn.at l.next l.members.items

abbrev pub decreases-list : goal.decreases-list
decreases-list l = length (words l.input) - l.next
