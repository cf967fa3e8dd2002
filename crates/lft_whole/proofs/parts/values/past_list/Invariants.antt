use Rattle.std.proofs.Common.{◌-◌}
use Rattle.lft_whole.{specs.{Parts.Language.{ignored, sign, isnt, symbol}, inner.Parts.Parsing.{count, NotBefore, source}}, proofs.PartsLemmas.Loop.Loop}
use Rattle.lft_whole.specs.Parts.Parts as Parts
use Rattle.lft_whole.proofs.parts.values.past_list.Given as goal

abbrev pub invariant-values : goal.invariant-values
invariant-values l = record {
  within : NotBefore l.input l.fn.at l.next;
  read : Loop (λ _. isnt (sign 41)) (λ _. ignored Parts.item) (source l.input) (λ a. symbol 41 (source l.input) a.1) tt l.next (Parts.rest (source l.input) l.fn.at);
}

abbrev pub decreases-values : goal.decreases-values
decreases-values l = count l.input - l.next
