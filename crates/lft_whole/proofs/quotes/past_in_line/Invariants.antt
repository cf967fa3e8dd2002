use Rattle.std.proofs.Common.{◌≡◌, ◌-◌}
use Rattle.lft_whole.{specs.Pieces.is_escaped, proofs.{Searches.NonePass, Escapes.ends_line}}
use Rattle.lft_whole.proofs.quotes.past_in_line.Given as goal

abbrev pub invariant-loop-at : goal.invariant-loop-at
invariant-loop-at l = record { escaped : l.is_escaped ≡ is_escaped l.text l.fn.from (l.at - l.fn.from); none : NonePass (ends_line l.quote l.text l.fn.from) l.fn.from l.at }
