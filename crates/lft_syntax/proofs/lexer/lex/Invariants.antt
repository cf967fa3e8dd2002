use Rattle.std.proofs.Common.{◌-◌, ◌≤◌, length}
use Rattle.lft_syntax.proofs.Cuts.{Front}
use Rattle.lft_syntax.proofs.lexer.lex.Given as goal

abbrev pub invariant-pieces : goal.invariant-pieces
invariant-pieces l = record { within : l.at ≤ length l.text; cut : Front l.text l.at l.tokens.items }

abbrev pub decreases-pieces : goal.decreases-pieces
decreases-pieces l = length l.text - l.at
