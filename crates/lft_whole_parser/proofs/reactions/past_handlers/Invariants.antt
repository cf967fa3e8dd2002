use Rattle.std.proofs.Common.{◌-◌, Ok}
use Rattle.lft_whole.{specs.{Parts.Language.ignored, inner.Parts.Parsing.{count, NotBefore, source}}, proofs.PartsLemmas.Loop.Loop}
use Rattle.lft_whole_parser.specs.Grammar as Grammar
use Rattle.lft_whole_parser.proofs.reactions.past_handlers.Given as goal

abbrev pub invariant-handlers : goal.invariant-handlers
invariant-handlers l = record {
  within : NotBefore l.input l.fn.at l.next;
  read : Loop (λ _. Grammar.on_handler) (λ _. ignored Grammar.handler) (source l.input) (λ a. Ok (a.0, a.1)) tt l.next (Grammar.handlers (source l.input) l.fn.at);
}

abbrev pub decreases-handlers : goal.decreases-handlers
decreases-handlers l = count l.input - l.next
