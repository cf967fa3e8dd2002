use Rattle.std.proofs.Common.{◌≡◌, [], ◌∷◌, ◌++◌, map, Ok, refl, sym, ◌∙◌, arith}
use Rattle.std.proofs.lemmas.{Result.err_from_is_err_and, List.map_push}
use Rattle.lft_whole.specs.{Parts.{Language.{sign, symbol, one_more, ◌>>◌}, View.name_view}, inner.Parts.Parsing.source}
use Rattle.lft_whole.proofs.PartsLemmas.Loop.{bind_fails, loop_opens, loop_turns, loop_fails, loop_done}
use Rattle.lft_whole_parser.specs.Grammar.{base_list}
use Rattle.lft_whole_parser.specs.Grammar as Grammar
use Rattle.lft_whole_parser.proofs.reactors.base_list.Goals as goal

pub list-init : goal.list-init
unfolding base_list
list-init c =
    let e : map name_view c.push.new.self.items ≡ name_view c.in_ok-first.first ∷ [] = rw (c.in_ok-push.ensures.items, c.new-bases.ensures.items) refl in
    let further = c.in_ok-first.ensures.ok in
    record { within = (omega (arith, further.0), further.1); read = rw e (loop_opens (λ _. sign 44) (one_more (symbol 44 >> Grammar.base)) (source c.args.input.now) (name_view c.in_ok-first.first ∷ []) c.in_ok-first.behind (Grammar.base_list (source c.args.input.now) c.args.at) (rw c.in_ok-first.ensures.gives refl)) }

pub list-preserved : goal.list-preserved
list-preserved c =
    let e : map name_view c.push-in-list.new.self.items ≡ map name_view c.list.bases.items ++ name_view c.in_ok-base.base ∷ [] = rw c.in_ok-push-2.ensures.items (map_push _ c.list.bases.items c.in_ok-base.base) in
    let further = c.in_ok-base.ensures.ok in
    let within = c.list.invariant.within in
    record { within = (omega (arith, further.0, within.0), further.1); read = rw e (loop_turns c.list.invariant.read (sym c.is_symbol.ensures.is ∙ c.list-test.true) (rw (sym c.is_symbol.ensures.is ∙ c.list-test.true) (rw c.in_ok-base.ensures.gives refl)) (omega (arith, further.0)) further.1) }

pub returns-in_err-base-clause-gives : goal.returns-in_err-base-clause-gives
returns-in_err-base-clause-gives c =
    let p = err_from_is_err_and c.from_residual-in_err-base.result c.from_residual-in_err-base.ensures.1 in
    rw (p.1, p.2) (loop_fails c.in_err-base.field-0.0 c.list.invariant.read (sym c.is_symbol.ensures.is ∙ c.list-test.true) (rw (sym c.is_symbol.ensures.is ∙ c.list-test.true) (bind_fails c.in_err-base.field-0.0 _ (λ a. Ok (map name_view c.list.bases.items ++ a.0 ∷ [], a.1)) c.in_err-base.ensures.gives)))

pub returns-clause-gives : goal.returns-clause-gives
returns-clause-gives c = loop_done c.list.invariant.read (sym c.is_symbol.ensures.is ∙ c.list-test.false)
