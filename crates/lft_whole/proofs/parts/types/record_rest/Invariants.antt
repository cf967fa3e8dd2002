use Rattle.std.proofs.Common.{◌-◌, ◌≤◌, Ok}
use Rattle.lft_whole.{specs.inner.Parts.Parsing.{count, NotBefore, source}, proofs.PartsLemmas.Loop.Loop}
use Rattle.lft_whole.specs.Parts.Parts as Parts
use Rattle.lft_whole.proofs.parts.types.record_rest.Given as goal

-- no more records are open than tokens were passed
abbrev pub invariant-record : goal.invariant-record
invariant-record l = record {
  within : NotBefore l.input l.fn.at l.next;
  depths : l.depth ≤ l.next;
  read : Loop (λ r _ _. Parts.is_open r.0) Parts.record_step (source l.input) (λ a. Ok (tt, a.1)) (l.depth, l.is_behind) l.next (Parts.record_rest (source l.input) l.fn.at);
}

abbrev pub decreases-record : goal.decreases-record
decreases-record l = count l.input - l.next
