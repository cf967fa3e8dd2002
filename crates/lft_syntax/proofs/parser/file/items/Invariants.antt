use Rattle.std.proofs.Common.{◌-◌, ◌≤◌, length}
use Rattle.lft_syntax.{specs.{Lexeme.is_there, inner.{Reading.{item_at, items_at}, Parsing.words}, Language.many}, proofs.Loop.SoFar}
use Rattle.lft_tree.specs.View.{item_views}
use Rattle.lft_syntax.specs.Placed as Placed
use Rattle.lft_syntax.proofs.parser.file.items.Given as goal

abbrev pub invariant-list : goal.invariant-list
invariant-list l =
    (l.next ≤ length (words l.input)) × SoFar is_there item_at (words l.input) (item_views l.items.items) l.next (items_at (words l.input) l.fn.at)
    × many Placed.item (words l.input) l.fn.at l.next l.items.items

abbrev pub decreases-list : goal.decreases-list
decreases-list l = length (words l.input) - l.next
