use Rattle.std.proofs.Common.{◌-◌, Ok}
use Rattle.lft_whole.{specs.{Parts.Language.{ignored, this, ◌>>◌}, inner.Parts.Parsing.{count, NotBefore, source}}, proofs.PartsLemmas.Loop.Loop}
use Rattle.lft_whole.specs.Parts.Parts as Parts
use Rattle.lft_whole.proofs.parts.values.path_end.Given as goal

abbrev pub invariant-path : goal.invariant-path
invariant-path l = record {
  within : NotBefore l.input l.fn.at l.next;
  read : Loop (λ _. Parts.on_path) (λ _. ignored (this >> this)) (source l.input) (λ a. Ok (a.0, a.1)) tt l.next (Parts.path (source l.input) l.fn.at);
}

abbrev pub decreases-path : goal.decreases-path
decreases-path l = count l.input - l.next
