use Rattle.std.proofs.Common.{◌-◌, Ok}
use Rattle.lft_whole.{specs.inner.Parts.Parsing.{count, NotBefore, source}, proofs.PartsLemmas.Loop.Loop}
use Rattle.lft_whole_parser.specs.Grammar as Grammar
use Rattle.lft_whole_parser.proofs.reactors.kind_words.Given as goal

abbrev pub invariant-words : goal.invariant-words
invariant-words l = record {
  within : NotBefore l.input l.fn.at l.next;
  read : Loop (λ _. Grammar.on_kind) Grammar.kind_word (source l.input) (λ a. Ok (a.0, a.1)) (l.is_main, l.is_federated) l.next (Grammar.kind_words (source l.input) l.fn.at);
}

abbrev pub decreases-words : goal.decreases-words
decreases-words l = count l.input - l.next
