use Rattle.std.proofs.Common.{◌≡◌, List, ◌++◌, ◌∷◌, [], refl, sym, ap, ◌∙◌, arith}
use Rattle.std.specs.Prelude.{map}
use Rattle.std.proofs.lemmas.{Result.err_from_is_err_and, List.map_push}
use Rattle.lft_syntax.specs.{Lexeme.{Symbol, is}, inner.{Reading.{repeated, after_comma, trigger_at, with_front}, Parsing.words}}
use Rattle.lft_syntax.specs.Placed.{TriggerStands, trigger_tokens}
use Rattle.lft_syntax.proofs.{Loop.{inside, loop_starts_behind, loop_fails, loop_turns, loop_done}, Rows.row_push, Rules.near_looks, Lists.right_after_comma}
use Rattle.lft_syntax.proofs.Reactions.{right_trigger}
use Rattle.lft_tree.specs.{declared.tree.Trigger.Trigger, View.trigger_view}
use Rattle.lft_syntax.proofs.parser.reactions.more_triggers.Goals as goal

pub list-init : goal.list-init
list-init c =
    let ws = words c.args.input.now in
    let e : c.push.new.self.items ≡ c.args.first ∷ [] = c.in_ok-push.ensures.items ∙ ap (λ (l : List Trigger). l ++ c.args.first ∷ []) c.new-triggers.ensures.items in
    (rw e (loop_starts_behind (is (Symbol 44)) (after_comma trigger_at) ws (trigger_view c.args.first) c.args.at), [], e, λ start one. ((one.0, tt), omega (arith, one.1)))

pub returns-in_err-trigger : goal.returns-in_err-trigger
returns-in_err-trigger c =
    let p = err_from_is_err_and c.from_residual-in_err-trigger.result c.from_residual-in_err-trigger.ensures.1 in
    let ws = words c.args.input.now in
    rw (p.1, p.2) (record {
      gives = loop_fails (is (Symbol 44)) (after_comma trigger_at) ws (with_front (trigger_view c.args.first ∷ []) (repeated (is (Symbol 44)) (after_comma trigger_at) ws c.args.at))
          (map trigger_view c.list.triggers.items) c.list.next c.in_err-trigger.field-0.0 c.list.invariant.0 (sym c.is_symbol.ensures ∙ c.list-test.true) c.in_err-trigger.ensures.gives;
      stand = λ start one. tt;
    })

pub list-smaller : goal.list-smaller
list-smaller c =
    let ws = words c.args.input.now in
    let t = loop_turns (is (Symbol 44)) (after_comma trigger_at) ws (with_front (trigger_view c.args.first ∷ []) (repeated (is (Symbol 44)) (after_comma trigger_at) ws c.args.at)) 1 (right_after_comma near_looks right_trigger)
    (map trigger_view c.list.triggers.items) c.list.next (trigger_view c.in_ok-trigger.trigger) c.in_ok-trigger.after c.list.invariant.0 (inside (is (Symbol 44)) refl ws c.list.next (sym c.is_symbol.ensures ∙ c.list-test.true)) (sym c.is_symbol.ensures ∙ c.list-test.true) c.in_ok-trigger.ensures.gives in
    omega (arith, t.1, t.2)

pub list-preserved : goal.list-preserved
list-preserved c =
    let ws = words c.args.input.now in
    let e : map trigger_view c.push-in-list.new.self.items ≡ map trigger_view c.list.triggers.items ++ trigger_view c.in_ok-trigger.trigger ∷ [] = rw c.in_ok-push-2.ensures.items (map_push _ c.list.triggers.items c.in_ok-trigger.trigger) in
    let t = loop_turns (is (Symbol 44)) (after_comma trigger_at) ws (with_front (trigger_view c.args.first ∷ []) (repeated (is (Symbol 44)) (after_comma trigger_at) ws c.args.at)) 1 (right_after_comma near_looks right_trigger)
    (map trigger_view c.list.triggers.items) c.list.next (trigger_view c.in_ok-trigger.trigger) c.in_ok-trigger.after c.list.invariant.0 (inside (is (Symbol 44)) refl ws c.list.next (sym c.is_symbol.ensures ∙ c.list-test.true)) (sym c.is_symbol.ensures ∙ c.list-test.true) c.in_ok-trigger.ensures.gives in
    let rest = c.list.invariant.1 in
    let row = c.list.invariant.3 in
    let added : List Trigger = c.in_ok-trigger.trigger ∷ [] in
    (rw e t.0, rest ++ added, c.in_ok-push-2.ensures.items ∙ ap (λ (l : List Trigger). l ++ added) c.list.invariant.2, λ start one. row_push (TriggerStands ws) trigger_tokens start c.list.next c.in_ok-trigger.after c.args.first rest c.in_ok-trigger.trigger (row start one) c.in_ok-trigger.ensures.stands)

pub returns : goal.returns
returns c =
    let ws = words c.args.input.now in
    record {
      gives = loop_done (is (Symbol 44)) (after_comma trigger_at) ws (with_front (trigger_view c.args.first ∷ []) (repeated (is (Symbol 44)) (after_comma trigger_at) ws c.args.at))
          (map trigger_view c.list.triggers.items) c.list.next c.list.invariant.0 (sym c.is_symbol.ensures ∙ c.list-test.false);
      stand = λ start one. rw c.list.invariant.2 (c.list.invariant.3 start one);
    }
