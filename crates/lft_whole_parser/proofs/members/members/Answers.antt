use Rattle.std.proofs.Common.{◌≡◌, [], map, not, true, Ok, refl, sym, ap, ◌∙◌, arith}
use Rattle.std.proofs.lemmas.Result.{err_from_is_err_and}
use Rattle.lft_whole.specs.{Parts.{Language.{sign, isnt, symbol, ◌>>=◌}, View.member_view}, inner.Parts.Parsing.source}
use Rattle.lft_whole.proofs.PartsLemmas.Loop.{loop_begins, loop_turns, loop_fails, loop_done}
use Rattle.lft_whole_parser.specs.Grammar.{members}
use Rattle.lft_whole_parser.specs.Grammar as Grammar
use Rattle.lft_whole_parser.proofs.members.members.Goals as goal

pub members-init : goal.members-init
unfolding members
members-init c =
    let e : map member_view c.new-members.result.items ≡ [] = rw c.new-members.ensures.items refl in
    record { within = (omega arith, c.requires); read = rw e (loop_begins (λ _. isnt (sign 125)) Grammar.next_member (source c.args.input.now) (λ a. symbol 125 (source c.args.input.now) a.1 >>= λ b. Ok (a.0, b.1)) [] c.args.at (Grammar.members (source c.args.input.now) c.args.at) refl) }

pub members-preserved : goal.members-preserved
members-preserved c =
    let further = c.in_ok-next.ensures.ok in
    let within = c.members.invariant.within in
    record { within = (omega (arith, further.0, within.0), further.1); read = loop_turns c.members.invariant.read (ap not (sym c.is_symbol.ensures.is ∙ c.members-test.true)) c.in_ok-next.ensures.gives (omega (arith, further.0)) further.1 }

pub returns-in_err-next-clause-gives : goal.returns-in_err-next-clause-gives
returns-in_err-next-clause-gives c =
    let p = err_from_is_err_and c.from_residual.result c.from_residual.ensures.1 in
    rw (p.1, p.2) (loop_fails c.in_err-next.field-0.0 c.members.invariant.read (ap not (sym c.is_symbol.ensures.is ∙ c.members-test.true)) c.in_err-next.ensures.gives)

pub returns-clause-gives : goal.returns-clause-gives
returns-clause-gives c =
    let closes : sign 125 (source c.args.input.now) c.members.next ≡ true = sym c.is_symbol.ensures.is ∙ c.members-test.false in
    loop_done c.members.invariant.read (ap not (sym c.is_symbol.ensures.is ∙ c.members-test.false)) ∙ rw closes refl
