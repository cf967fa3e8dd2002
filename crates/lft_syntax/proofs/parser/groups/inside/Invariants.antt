use Rattle.std.proofs.Common.{suc, ◌-◌, length}
use Rattle.lft_syntax.{specs.{Lexeme.Symbol, inner.{Reading.inside_at, Parsing.words}}, proofs.Inside.Within}
use Rattle.lft_syntax.proofs.parser.groups.inside.Given as goal

abbrev pub invariant-group : goal.invariant-group
invariant-group l = Within (Symbol l.opening) (Symbol l.closing) (words l.input) l.depth l.next (inside_at (Symbol l.opening) (Symbol l.closing) (suc (length (words l.input))) 0 (words l.input) l.fn.at)

abbrev pub decreases-group : goal.decreases-group
decreases-group l = length (words l.input) - l.next
