use Rattle.std.proofs.Common.{◌-◌, Ok, map}
use Rattle.lft_whole.specs.{Parts.{Language.{sign, isnt, symbol, one_more, listed, ◌>>=◌}, View.trigger_view}, inner.Parts.Parsing.{count, NotBefore, source}}
use Rattle.lft_whole.proofs.PartsLemmas.Loop.{Loop}
use Rattle.lft_whole_parser.specs.Grammar as Grammar
use Rattle.lft_whole_parser.proofs.reactions.triggers.Given as goal

abbrev pub invariant-list : goal.invariant-list
invariant-list l = record {
  within : NotBefore l.input l.fn.at l.next;
  read : Loop (λ _. isnt (sign 41)) (one_more (listed 41 Grammar.trigger)) (source l.input) (λ a. symbol 41 (source l.input) a.1 >>= λ b. Ok (a.0, b.1)) (map trigger_view l.triggers.items) l.next (Grammar.triggers (source l.input) l.fn.at);
}

abbrev pub decreases-list : goal.decreases-list
decreases-list l = count l.input - l.next
