use Rattle.std.proofs.Common.{◌-◌, Ok, map}
use Rattle.lft_whole.specs.{Parts.{Language.{sign, symbol, one_more, ◌>>◌}, View.reference_view}, inner.Parts.Parsing.{count, Further, source}}
use Rattle.lft_whole.proofs.PartsLemmas.Loop.{Loop}
use Rattle.lft_whole.specs.Parts.Parts as Parts
use Rattle.lft_whole.proofs.parts.references.references.Given as goal

abbrev pub invariant-list : goal.invariant-list
invariant-list l = record {
  within : Further l.input l.fn.at l.next;
  read : Loop (λ _. sign 44) (one_more (symbol 44 >> Parts.reference)) (source l.input) (λ a. Ok (a.0, a.1)) (map reference_view l.references.items) l.next (Parts.references (source l.input) l.fn.at);
}

abbrev pub decreases-list : goal.decreases-list
decreases-list l = count l.input - l.next
