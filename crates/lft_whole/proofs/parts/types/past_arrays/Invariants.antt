use Rattle.std.proofs.Common.{◌-◌, Ok}
use Rattle.lft_whole.{specs.{Parts.Language.{ignored, sign, group}, inner.Parts.Parsing.{count, NotBefore, source}}, proofs.PartsLemmas.Loop.Loop}
use Rattle.lft_whole.specs.Parts.Parts as Parts
use Rattle.lft_whole.proofs.parts.types.past_arrays.Given as goal

abbrev pub invariant-arrays : goal.invariant-arrays
invariant-arrays l = record {
  within : NotBefore l.input l.fn.at l.next;
  read : Loop (λ _. (sign 91)) (λ _. ignored (group 91 93)) (source l.input) (λ a. Ok (a.0, a.1)) tt l.next (Parts.arrays (source l.input) l.fn.at);
}

abbrev pub decreases-arrays : goal.decreases-arrays
decreases-arrays l = count l.input - l.next
