use Rattle.std.proofs.Common.{◌≡◌, [], ◌∷◌, ◌++◌, map, Ok, refl, sym, ◌∙◌, arith}
use Rattle.std.proofs.lemmas.{Result.err_from_is_err_and, List.map_push}
use Rattle.lft_whole.specs.{Parts.{Language.{sign, symbol, one_more, ◌>>◌}, Parts.terms, View.term_view}, inner.Parts.Parsing.source}
use Rattle.lft_whole.proofs.PartsLemmas.Loop.{bind_fails, loop_opens, loop_turns, loop_fails, loop_done}
use Rattle.lft_whole.specs.Parts.Parts as Parts
use Rattle.lft_whole.proofs.parts.widths.terms.Goals as goal

pub sum-init : goal.sum-init
unfolding terms
sum-init c =
    let e : map term_view c.push.new.self.items ≡ term_view c.in_ok-first.first ∷ [] = rw (c.in_ok-push.ensures.items, c.new-terms.ensures.items) refl in
    let further = c.in_ok-first.ensures.ok in
    record { within = (omega (arith, further.0), further.1); read = rw e (loop_opens (λ _. sign 43) (one_more (symbol 43 >> Parts.term)) (source c.args.input.now) (term_view c.in_ok-first.first ∷ []) c.in_ok-first.behind (Parts.terms (source c.args.input.now) c.args.at) (rw c.in_ok-first.ensures.gives refl)) }

pub sum-preserved : goal.sum-preserved
sum-preserved c =
    let e : map term_view c.push-in-sum.new.self.items ≡ map term_view c.sum.terms.items ++ term_view c.in_ok-term.term ∷ [] = rw c.in_ok-push-2.ensures.items (map_push _ c.sum.terms.items c.in_ok-term.term) in
    let further = c.in_ok-term.ensures.ok in
    let within = c.sum.invariant.within in
    record { within = (omega (arith, further.0, within.0), further.1); read = rw e (loop_turns c.sum.invariant.read (sym c.is_symbol.ensures.is ∙ c.sum-test.true) (rw (sym c.is_symbol.ensures.is ∙ c.sum-test.true) (rw c.in_ok-term.ensures.gives refl)) (omega (arith, further.0)) further.1) }

pub returns-in_err-term-clause-gives : goal.returns-in_err-term-clause-gives
returns-in_err-term-clause-gives c =
    let p = err_from_is_err_and c.from_residual-in_err-term.result c.from_residual-in_err-term.ensures.1 in
    rw (p.1, p.2) (loop_fails c.in_err-term.field-0.0 c.sum.invariant.read (sym c.is_symbol.ensures.is ∙ c.sum-test.true) (rw (sym c.is_symbol.ensures.is ∙ c.sum-test.true) (bind_fails c.in_err-term.field-0.0 _ (λ a. Ok (map term_view c.sum.terms.items ++ a.0 ∷ [], a.1)) c.in_err-term.ensures.gives)))

pub returns-clause-gives : goal.returns-clause-gives
returns-clause-gives c = loop_done c.sum.invariant.read (sym c.is_symbol.ensures.is ∙ c.sum-test.false)
