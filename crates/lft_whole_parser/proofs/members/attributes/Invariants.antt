use Rattle.std.proofs.Common.{◌-◌, Ok}
use Rattle.lft_whole.{specs.{Parts.Language.sign, inner.Parts.Parsing.{count, NotBefore, source}}, proofs.PartsLemmas.Loop.Loop}
use Rattle.lft_whole_parser.specs.Grammar as Grammar
use Rattle.lft_whole_parser.proofs.members.attributes.Given as goal

abbrev pub invariant-attributes : goal.invariant-attributes
invariant-attributes l = record {
  within : NotBefore l.input l.fn.at l.next;
  read : Loop (λ _. sign 64) Grammar.next_attribute (source l.input) (λ a. Ok (a.0, a.1)) l.is_enclave l.next (Grammar.attributes (source l.input) l.fn.at);
}

abbrev pub decreases-attributes : goal.decreases-attributes
decreases-attributes l = count l.input - l.next
