use Rattle.std.proofs.Common.{◌-◌, length}
use Rattle.lft_syntax.{specs.{Lexeme.{Symbol, is}, inner.{Reading.{symbol_at, stars_at, ignoring_at}, Parsing.words}}, proofs.Loop.Passing}
use Rattle.lft_syntax.proofs.parser.types.stars.Given as goal

abbrev pub invariant-list : goal.invariant-list
invariant-list l = Passing (is (Symbol 42)) (symbol_at 42) (words l.input) l.next (ignoring_at stars_at (words l.input) l.fn.at)

abbrev pub decreases-list : goal.decreases-list
decreases-list l = length (words l.input) - l.next
