use Rattle.std.proofs.Common.{◌≡◌, List, ◌++◌, ◌∷◌, [], refl, sym, ap, ◌∙◌, arith}
use Rattle.std.specs.Prelude.{map}
use Rattle.std.proofs.lemmas.{Result.err_from_is_err_and, List.map_push}
use Rattle.lft_syntax.specs.{Lexeme.{Symbol, is}, inner.{Reading.{repeated, after_comma, param_at, with_front}, Parsing.words}}
use Rattle.lft_syntax.specs.Placed.{ParameterStands, parameter_tokens}
use Rattle.lft_syntax.proofs.{Loop.{inside, loop_starts_behind, loop_fails, loop_turns, loop_done}, Rows.row_push, Rules.near_looks, Lists.right_after_comma}
use Rattle.lft_syntax.proofs.Instances.{right_param}
use Rattle.lft_tree.specs.{declared.tree.Parameter.Parameter, View.parameter_view}
use Rattle.lft_syntax.proofs.parser.reactors.more_parameters.Goals as goal

pub list-init : goal.list-init
list-init c =
    let ws = words c.args.input.now in
    let e : c.push.new.self.items ≡ c.args.first ∷ [] = c.in_ok-push.ensures.items ∙ ap (λ (l : List Parameter). l ++ c.args.first ∷ []) c.new-parameters.ensures.items in
    (rw e (loop_starts_behind (is (Symbol 44)) (after_comma param_at) ws (parameter_view c.args.first) c.args.at), [], e, ((c.requires.0, tt), omega (arith, c.requires.1)))

pub returns-in_err-parameter : goal.returns-in_err-parameter
returns-in_err-parameter c =
    let p = err_from_is_err_and c.from_residual-in_err-parameter.result c.from_residual-in_err-parameter.ensures.1 in
    let ws = words c.args.input.now in
    rw (p.1, p.2) (record {
      gives = loop_fails (is (Symbol 44)) (after_comma param_at) ws (with_front (parameter_view c.args.first ∷ []) (repeated (is (Symbol 44)) (after_comma param_at) ws c.args.at))
          (map parameter_view c.list.parameters.items) c.list.next c.in_err-parameter.field-0.0 c.list.invariant.0 (sym c.is_symbol.ensures ∙ c.list-test.true) c.in_err-parameter.ensures.gives;
      stand = tt;
    })

pub list-smaller : goal.list-smaller
list-smaller c =
    let ws = words c.args.input.now in
    let t = loop_turns (is (Symbol 44)) (after_comma param_at) ws (with_front (parameter_view c.args.first ∷ []) (repeated (is (Symbol 44)) (after_comma param_at) ws c.args.at)) 1 (right_after_comma near_looks right_param)
    (map parameter_view c.list.parameters.items) c.list.next (parameter_view c.in_ok-parameter.parameter) c.in_ok-parameter.after c.list.invariant.0 (inside (is (Symbol 44)) refl ws c.list.next (sym c.is_symbol.ensures ∙ c.list-test.true)) (sym c.is_symbol.ensures ∙ c.list-test.true) c.in_ok-parameter.ensures.gives in
    omega (arith, t.1, t.2)

pub list-preserved : goal.list-preserved
list-preserved c =
    let ws = words c.args.input.now in
    let e : map parameter_view c.push-in-list.new.self.items ≡ map parameter_view c.list.parameters.items ++ parameter_view c.in_ok-parameter.parameter ∷ [] = rw c.in_ok-push-2.ensures.items (map_push _ c.list.parameters.items c.in_ok-parameter.parameter) in
    let t = loop_turns (is (Symbol 44)) (after_comma param_at) ws (with_front (parameter_view c.args.first ∷ []) (repeated (is (Symbol 44)) (after_comma param_at) ws c.args.at)) 1 (right_after_comma near_looks right_param)
    (map parameter_view c.list.parameters.items) c.list.next (parameter_view c.in_ok-parameter.parameter) c.in_ok-parameter.after c.list.invariant.0 (inside (is (Symbol 44)) refl ws c.list.next (sym c.is_symbol.ensures ∙ c.list-test.true)) (sym c.is_symbol.ensures ∙ c.list-test.true) c.in_ok-parameter.ensures.gives in
    let rest = c.list.invariant.1 in
    let row = c.list.invariant.3 in
    let added : List Parameter = c.in_ok-parameter.parameter ∷ [] in
    (rw e t.0, rest ++ added, c.in_ok-push-2.ensures.items ∙ ap (λ (l : List Parameter). l ++ added) c.list.invariant.2, row_push (ParameterStands ws) (parameter_tokens ws) c.args.first.at c.list.next c.in_ok-parameter.after c.args.first rest c.in_ok-parameter.parameter row c.in_ok-parameter.ensures.stands)

pub returns : goal.returns
returns c =
    let ws = words c.args.input.now in
    record {
      gives = loop_done (is (Symbol 44)) (after_comma param_at) ws (with_front (parameter_view c.args.first ∷ []) (repeated (is (Symbol 44)) (after_comma param_at) ws c.args.at))
          (map parameter_view c.list.parameters.items) c.list.next c.list.invariant.0 (sym c.is_symbol.ensures ∙ c.list-test.false);
      stand = rw c.list.invariant.2 c.list.invariant.3;
    }
