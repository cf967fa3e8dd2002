use Rattle.std.proofs.Common.{◌-◌, Ok}
use Rattle.lft_whole.{specs.{Parts.Language.{ignored, sign, symbol, ◌>>◌}, inner.Parts.Parsing.{count, NotBefore, source}}, proofs.PartsLemmas.Loop.Loop}
use Rattle.lft_whole.specs.Parts.Parts as Parts
use Rattle.lft_whole.proofs.parts.types.past_union.Given as goal

abbrev pub invariant-types : goal.invariant-types
invariant-types l = record {
  within : NotBefore l.input l.fn.at l.next;
  read : Loop (λ _. (sign 124)) (λ _. ignored (symbol 124 >> Parts.member_type)) (source l.input) (λ a. Ok (a.0, a.1)) tt l.next (Parts.union (source l.input) l.fn.at);
}

abbrev pub decreases-types : goal.decreases-types
decreases-types l = count l.input - l.next
