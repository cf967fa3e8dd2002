use Rattle.std.proofs.Common.{◌≡◌, ◌-◌, List, ◌∷◌, [], length}
use Rattle.std.specs.Prelude.{map}
use Rattle.lft_syntax.specs.{Lexeme.{Symbol, is}, inner.{Reading.{repeated, after_comma, assign_at, with_front}, Parsing.words, Placed.TakeRow}}
use Rattle.lft_syntax.specs.Placed.{AssignmentStands, assignment_tokens}
use Rattle.lft_syntax.proofs.Loop.{SoFar}
use Rattle.lft_tree.specs.{declared.tree.Assignment.Assignment, View.assignment_view}
use Rattle.lft_syntax.proofs.parser.instances.more_assignments.Given as goal

abbrev pub invariant-list : goal.invariant-list
invariant-list l =
    SoFar (is (Symbol 44)) (after_comma assign_at) (words l.input) (map assignment_view l.assignments.items) l.next (with_front (assignment_view l.fn.first ∷ []) (repeated (is (Symbol 44)) (after_comma assign_at) (words l.input) l.fn.at))
    × (rest : List Assignment) × (l.assignments.items ≡ l.fn.first ∷ rest) × TakeRow (AssignmentStands (words l.input)) (assignment_tokens (words l.input)) l.fn.first.at (l.fn.first ∷ rest) l.next

abbrev pub decreases-list : goal.decreases-list
decreases-list l = length (words l.input) - l.next
