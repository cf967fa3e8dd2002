use Rattle.std.proofs.Common.{◌-◌, ◌≤◌, length}
use Rattle.lft_whole.{specs.inner.Pieces.QuoteNothing, proofs.CodeEnds.CodeLeft}
use Rattle.lft_whole.proofs.quotes.past_code.Given as goal

abbrev pub invariant-code : goal.invariant-code
invariant-code l = record { order : l.fn.from ≤ l.at; left : CodeLeft l.text l.fn.from l.at; nothing : QuoteNothing l.text l.at l.quoteless }

abbrev pub decreases-code : goal.decreases-code
decreases-code l = length l.text - l.at
