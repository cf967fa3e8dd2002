use Rattle.std.proofs.Common.{map}
use Rattle.std.specs.List.{AllZip}
use Rattle.lft_record.specs.Expressions.{IsTerm}
use Rattle.lft_record.proofs.cards.expression.read_expression.Given as goal

abbrev pub invariant-loop-piece : goal.invariant-loop-piece
invariant-loop-piece l = AllZip (IsTerm l.program l.reaction) (map (λ piece. piece.now) l.yielded) l.terms.items
