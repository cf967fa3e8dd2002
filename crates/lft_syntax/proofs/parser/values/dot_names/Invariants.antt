use Rattle.std.proofs.Common.{◌-◌, length}
use Rattle.lft_syntax.{specs.{Lexeme.{Symbol, is}, inner.{Reading.{dot_name_at, dot_names_at, ignoring_at}, Parsing.words}}, proofs.Loop.Passing}
use Rattle.lft_syntax.proofs.parser.values.dot_names.Given as goal

abbrev pub invariant-list : goal.invariant-list
invariant-list l = Passing (is (Symbol 46)) dot_name_at (words l.input) l.next (ignoring_at dot_names_at (words l.input) l.fn.at)

abbrev pub decreases-list : goal.decreases-list
decreases-list l = length (words l.input) - l.next
