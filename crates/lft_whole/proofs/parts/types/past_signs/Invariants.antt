use Rattle.std.proofs.Common.{◌-◌, Ok}
use Rattle.lft_whole.{specs.{Parts.Language.{ignored, this}, inner.Parts.Parsing.{count, NotBefore, source}}, proofs.PartsLemmas.Loop.Loop}
use Rattle.lft_whole.specs.Parts.Parts as Parts
use Rattle.lft_whole.proofs.parts.types.past_signs.Given as goal

abbrev pub invariant-signs : goal.invariant-signs
invariant-signs l = record {
  within : NotBefore l.input l.fn.at l.next;
  read : Loop (λ _. Parts.on_sign) (λ _. ignored this) (source l.input) (λ a. Ok (a.0, a.1)) tt l.next (Parts.signs (source l.input) l.fn.at);
}

abbrev pub decreases-signs : goal.decreases-signs
decreases-signs l = count l.input - l.next
