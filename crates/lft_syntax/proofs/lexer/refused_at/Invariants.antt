use Rattle.std.proofs.Common.{◌-◌, ◌≤◌, List, length}
use Rattle.lft_syntax.{specs.declared.token.Token.Token, proofs.Cuts.Front}
use Rattle.lft_syntax.proofs.lexer.refused_at.Given as goal

abbrev pub invariant-pieces : goal.invariant-pieces
invariant-pieces l = record { within : l.at ≤ length l.text; cut : (tokens : List Token) × Front l.text l.at tokens }

abbrev pub decreases-pieces : goal.decreases-pieces
decreases-pieces l = length l.text - l.at
