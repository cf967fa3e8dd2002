use Rattle.std.proofs.Common.{◌-◌, Ok}
use Rattle.lft_whole.{specs.{Parts.Language.ignored, inner.Parts.Parsing.{count, NotBefore, source}}, proofs.PartsLemmas.Loop.Loop}
use Rattle.lft_whole.specs.Parts.Parts as Parts
use Rattle.lft_whole.proofs.parts.types.past_parts.Given as goal

abbrev pub invariant-parts : goal.invariant-parts
invariant-parts l = record {
  within : NotBefore l.input l.fn.at l.next;
  read : Loop (λ _. Parts.on_part) (λ _. ignored Parts.type_part) (source l.input) (λ a. Ok (a.0, a.1)) tt l.next (Parts.type_parts (source l.input) l.fn.at);
}

abbrev pub decreases-parts : goal.decreases-parts
decreases-parts l = count l.input - l.next
