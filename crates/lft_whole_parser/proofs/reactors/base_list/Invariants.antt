use Rattle.std.proofs.Common.{◌-◌, Ok, map}
use Rattle.lft_whole.specs.{Parts.{Language.{sign, symbol, one_more, ◌>>◌}, View.name_view}, inner.Parts.Parsing.{count, Further, source}}
use Rattle.lft_whole.proofs.PartsLemmas.Loop.{Loop}
use Rattle.lft_whole_parser.specs.Grammar as Grammar
use Rattle.lft_whole_parser.proofs.reactors.base_list.Given as goal

abbrev pub invariant-list : goal.invariant-list
invariant-list l = record {
  within : Further l.input l.fn.at l.next;
  read : Loop (λ _. sign 44) (one_more (symbol 44 >> Grammar.base)) (source l.input) (λ a. Ok (a.0, a.1)) (map name_view l.bases.items) l.next (Grammar.base_list (source l.input) l.fn.at);
}

abbrev pub decreases-list : goal.decreases-list
decreases-list l = count l.input - l.next
