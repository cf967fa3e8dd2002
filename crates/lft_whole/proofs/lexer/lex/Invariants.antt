use Rattle.std.proofs.Common.{◌-◌, ◌≤◌, length}
use Rattle.lft_whole.{specs.inner.Tokens.StandBetween, proofs.Cuts.Front}
use Rattle.lft_whole.proofs.lexer.lex.Given as goal

abbrev pub invariant-pieces : goal.invariant-pieces
invariant-pieces l = record { within : l.at ≤ length l.text; between : StandBetween l.text 0 l.tokens.items l.at; front : Front l.text l.tokens.items l.at }

abbrev pub decreases-pieces : goal.decreases-pieces
decreases-pieces l = length l.text - l.at
