use Rattle.std.proofs.Common.{◌≡◌, [], ◌∷◌, ◌++◌, map, not, true, Ok, refl, sym, ap, ◌∙◌, arith}
use Rattle.std.proofs.lemmas.{Result.err_from_is_err_and, List.map_push}
use Rattle.lft_whole.specs.{Parts.{Language.{sign, isnt, symbol, one_more, listed, ◌>>=◌}, View.parameter_view}, inner.Parts.Parsing.source}
use Rattle.lft_whole.proofs.PartsLemmas.Loop.{bind_fails, loop_begins, loop_turns, loop_fails, loop_done}
use Rattle.lft_whole_parser.specs.Grammar.{parameter_list}
use Rattle.lft_whole_parser.specs.Grammar as Grammar
use Rattle.lft_whole_parser.proofs.reactors.parameter_list.Goals as goal

pub list-init : goal.list-init
unfolding parameter_list
list-init c =
    let e : map parameter_view c.new-parameters.result.items ≡ [] = rw c.new-parameters.ensures.items refl in
    record { within = (omega arith, c.requires); read = rw e (loop_begins (λ _. isnt (sign 41)) (one_more (listed 41 Grammar.parameter)) (source c.args.input.now) (λ a. symbol 41 (source c.args.input.now) a.1 >>= λ b. Ok (a.0, b.1)) [] c.args.at (Grammar.parameter_list (source c.args.input.now) c.args.at) refl) }

pub list-preserved : goal.list-preserved
list-preserved c =
    let e : map parameter_view c.push.new.self.items ≡ map parameter_view c.list.parameters.items ++ parameter_view c.in_ok-parameter.parameter ∷ [] = rw c.in_ok-push.ensures.items (map_push _ c.list.parameters.items c.in_ok-parameter.parameter) in
    let further = c.in_ok-parameter.ensures.ok in
    let within = c.list.invariant.within in
    record { within = (omega (arith, further.0, within.0), further.1); read = rw e (loop_turns c.list.invariant.read (ap not (sym c.is_symbol.ensures.is ∙ c.list-test.true)) (rw c.in_ok-parameter.ensures.gives refl) (omega (arith, further.0)) further.1) }

pub returns-in_err-parameter-clause-gives : goal.returns-in_err-parameter-clause-gives
returns-in_err-parameter-clause-gives c =
    let p = err_from_is_err_and c.from_residual.result c.from_residual.ensures.1 in
    rw (p.1, p.2) (loop_fails c.in_err-parameter.field-0.0 c.list.invariant.read (ap not (sym c.is_symbol.ensures.is ∙ c.list-test.true)) (bind_fails c.in_err-parameter.field-0.0 _ (λ a. Ok (map parameter_view c.list.parameters.items ++ a.0 ∷ [], a.1)) c.in_err-parameter.ensures.gives))

pub returns-clause-gives : goal.returns-clause-gives
returns-clause-gives c =
    let closes : sign 41 (source c.args.input.now) c.list.next ≡ true = sym c.is_symbol.ensures.is ∙ c.list-test.false in
    loop_done c.list.invariant.read (ap not (sym c.is_symbol.ensures.is ∙ c.list-test.false)) ∙ rw closes refl
