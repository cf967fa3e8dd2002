use Rattle.std.proofs.Common.{◌≡◌, [], ◌∷◌, ◌++◌, map, Ok, refl, sym, ◌∙◌, arith}
use Rattle.std.proofs.lemmas.{Result.err_from_is_err_and, List.map_push}
use Rattle.lft_whole.specs.{Parts.{Language.{sign, symbol, one_more, ◌>>◌}, View.imported_view}, inner.Parts.Parsing.source}
use Rattle.lft_whole.proofs.PartsLemmas.Loop.{bind_fails, loop_opens, loop_turns, loop_fails, loop_done}
use Rattle.lft_whole_parser.specs.Files.{imported_names}
use Rattle.lft_whole_parser.specs.Files as Files
use Rattle.lft_whole_parser.proofs.files.imported_names.Goals as goal

pub list-init : goal.list-init
unfolding imported_names
list-init c =
    let e : map imported_view c.push.new.self.items ≡ imported_view c.in_ok-first.first ∷ [] = rw (c.in_ok-push.ensures.items, c.new-names.ensures.items) refl in
    let further = c.in_ok-first.ensures.ok in
    record { within = (omega (arith, further.0), further.1); read = rw e (loop_opens (λ _. sign 44) (one_more (symbol 44 >> Files.imported)) (source c.args.input.now) (imported_view c.in_ok-first.first ∷ []) c.in_ok-first.behind (Files.imported_names (source c.args.input.now) c.args.at) (rw c.in_ok-first.ensures.gives refl)) }

pub list-preserved : goal.list-preserved
list-preserved c =
    let e : map imported_view c.push-in-list.new.self.items ≡ map imported_view c.list.names.items ++ imported_view c.in_ok-name.name ∷ [] = rw c.in_ok-push-2.ensures.items (map_push _ c.list.names.items c.in_ok-name.name) in
    let further = c.in_ok-name.ensures.ok in
    let within = c.list.invariant.within in
    record { within = (omega (arith, further.0, within.0), further.1); read = rw e (loop_turns c.list.invariant.read (sym c.is_symbol.ensures.is ∙ c.list-test.true) (rw (sym c.is_symbol.ensures.is ∙ c.list-test.true) (rw c.in_ok-name.ensures.gives refl)) (omega (arith, further.0)) further.1) }

pub returns-in_err-name-clause-gives : goal.returns-in_err-name-clause-gives
returns-in_err-name-clause-gives c =
    let p = err_from_is_err_and c.from_residual-in_err-name.result c.from_residual-in_err-name.ensures.1 in
    rw (p.1, p.2) (loop_fails c.in_err-name.field-0.0 c.list.invariant.read (sym c.is_symbol.ensures.is ∙ c.list-test.true) (rw (sym c.is_symbol.ensures.is ∙ c.list-test.true) (bind_fails c.in_err-name.field-0.0 _ (λ a. Ok (map imported_view c.list.names.items ++ a.0 ∷ [], a.1)) c.in_err-name.ensures.gives)))

pub returns-clause-gives : goal.returns-clause-gives
returns-clause-gives c = loop_done c.list.invariant.read (sym c.is_symbol.ensures.is ∙ c.list-test.false)
