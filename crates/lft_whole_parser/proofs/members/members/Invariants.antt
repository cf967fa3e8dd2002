use Rattle.std.proofs.Common.{◌-◌, Ok, map}
use Rattle.lft_whole.specs.{Parts.{Language.{sign, isnt, symbol, ◌>>=◌}, View.member_view}, inner.Parts.Parsing.{count, NotBefore, source}}
use Rattle.lft_whole.proofs.PartsLemmas.Loop.{Loop}
use Rattle.lft_whole_parser.specs.Grammar as Grammar
use Rattle.lft_whole_parser.proofs.members.members.Given as goal

abbrev pub invariant-members : goal.invariant-members
invariant-members l = record {
  within : NotBefore l.input l.fn.at l.next;
  read : Loop (λ _. isnt (sign 125)) Grammar.next_member (source l.input) (λ a. symbol 125 (source l.input) a.1 >>= λ b. Ok (a.0, b.1)) (map member_view l.members.items) l.next (Grammar.members (source l.input) l.fn.at);
}

abbrev pub decreases-members : goal.decreases-members
decreases-members l = count l.input - l.next
