use Rattle.std.proofs.Common.{◌-◌, Ok, map}
use Rattle.lft_whole.specs.{Parts.{Language.{sign, symbol, one_more, ◌>>◌}, View.term_view}, inner.Parts.Parsing.{count, Further, source}}
use Rattle.lft_whole.proofs.PartsLemmas.Loop.{Loop}
use Rattle.lft_whole.specs.Parts.Parts as Parts
use Rattle.lft_whole.proofs.parts.widths.terms.Given as goal

abbrev pub invariant-sum : goal.invariant-sum
invariant-sum l = record {
  within : Further l.input l.fn.at l.next;
  read : Loop (λ _. sign 43) (one_more (symbol 43 >> Parts.term)) (source l.input) (λ a. Ok (a.0, a.1)) (map term_view l.terms.items) l.next (Parts.terms (source l.input) l.fn.at);
}

abbrev pub decreases-sum : goal.decreases-sum
decreases-sum l = count l.input - l.next
