use Rattle.std.proofs.Common.{◌-◌, ◌+◌, ◌≤◌, Ok}
use Rattle.lft_whole.{specs.{Parts.Language.{ignored, repeat, inside, within}, inner.Parts.Parsing.{count, NotBefore, source}}, proofs.PartsLemmas.Loop.Loop}
use Rattle.lft_whole.proofs.parts.groups.closing_of.Given as goal

-- no more brackets are open than tokens were passed
abbrev pub invariant-group : goal.invariant-group
invariant-group l = record {
  between : NotBefore l.input l.fn.at l.next;
  depths : l.fn.at + l.depth ≤ l.next;
  read : Loop (inside l.closing) (within l.opening l.closing) (source l.input) (λ a. Ok (tt, a.1)) l.depth l.next (ignored (repeat (inside l.closing) (within l.opening l.closing) 0) (source l.input) l.fn.at);
}

abbrev pub decreases-group : goal.decreases-group
decreases-group l = count l.input - l.next
