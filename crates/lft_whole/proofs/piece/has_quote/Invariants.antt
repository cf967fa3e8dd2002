use Rattle.std.proofs.Common.{[], ◌∷◌}
use Rattle.lft_whole.{specs.Pieces.stands, proofs.Searches.NonePass}
use Rattle.lft_whole.proofs.piece.has_quote.Given as goal

abbrev pub invariant-loop-at : goal.invariant-loop-at
invariant-loop-at l = NonePass (stands (39 ∷ []) l.text) l.fn.from l.at
