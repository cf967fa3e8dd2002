use Rattle.std.proofs.Common.{◌-◌, length}
use Rattle.lft_syntax.{specs.{Lexeme.{Symbol, is}, inner.{Reading.{array_part_at, array_parts_at, ignoring_at}, Parsing.words}}, proofs.Loop.Passing}
use Rattle.lft_syntax.proofs.parser.types.array_parts.Given as goal

abbrev pub invariant-list : goal.invariant-list
invariant-list l = Passing (is (Symbol 91)) array_part_at (words l.input) l.next (ignoring_at array_parts_at (words l.input) l.fn.at)

abbrev pub decreases-list : goal.decreases-list
decreases-list l = length (words l.input) - l.next
