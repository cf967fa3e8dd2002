use Rattle.std.proofs.Common.{[], ◌∷◌}
use Rattle.lft_whole.{specs.Pieces.stands, proofs.Searches.NonePass}
use Rattle.lft_whole.proofs.quotes.past_remark.Given as goal

abbrev pub invariant-loop-at : goal.invariant-loop-at
invariant-loop-at l = NonePass (stands (42 ∷ 47 ∷ []) l.text) l.fn.from l.at
