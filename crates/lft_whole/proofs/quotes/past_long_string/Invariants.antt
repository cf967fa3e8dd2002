use Rattle.std.proofs.Common.{◌≡◌, ◌-◌, [], ◌∷◌}
use Rattle.lft_whole.{specs.Pieces.{is_escaped, closes}, proofs.Searches.NonePass}
use Rattle.lft_whole.proofs.quotes.past_long_string.Given as goal

abbrev pub invariant-loop-at : goal.invariant-loop-at
invariant-loop-at l = record { escaped : l.is_escaped ≡ is_escaped l.text l.fn.from (l.at - l.fn.from); none : NonePass (closes (34 ∷ 34 ∷ 34 ∷ []) l.text l.fn.from) l.fn.from l.at }
