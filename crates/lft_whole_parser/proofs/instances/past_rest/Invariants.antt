use Rattle.std.proofs.Common.{◌-◌, Ok}
use Rattle.lft_whole.{specs.{Parts.Language.{ignored, this}, inner.Parts.Parsing.{count, NotBefore, source}}, proofs.PartsLemmas.Loop.Loop}
use Rattle.lft_whole_parser.specs.Grammar as Grammar
use Rattle.lft_whole_parser.proofs.instances.past_rest.Given as goal

abbrev pub invariant-host : goal.invariant-host
invariant-host l = record {
  within : NotBefore l.input l.fn.at l.next;
  read : Loop (λ _. Grammar.on_host) (λ _. ignored this) (source l.input) (λ a. Ok (a.0, a.1)) tt l.next (Grammar.host_rest (source l.input) l.fn.at);
}

abbrev pub decreases-host : goal.decreases-host
decreases-host l = count l.input - l.next
