use Rattle.std.proofs.Common.{◌-◌, Ok, map}
use Rattle.lft_whole.specs.{Parts.{Language.{sign, symbol, one_more, ◌>>◌}, View.effect_view}, inner.Parts.Parsing.{count, Further, source}}
use Rattle.lft_whole.proofs.PartsLemmas.Loop.{Loop}
use Rattle.lft_whole.specs.Parts.Parts as Parts
use Rattle.lft_whole.proofs.parts.references.effects.Given as goal

abbrev pub invariant-list : goal.invariant-list
invariant-list l = record {
  within : Further l.input l.fn.at l.next;
  read : Loop (λ _. sign 44) (one_more (symbol 44 >> Parts.effect)) (source l.input) (λ a. Ok (a.0, a.1)) (map effect_view l.effects.items) l.next (Parts.effects (source l.input) l.fn.at);
}

abbrev pub decreases-list : goal.decreases-list
decreases-list l = count l.input - l.next
