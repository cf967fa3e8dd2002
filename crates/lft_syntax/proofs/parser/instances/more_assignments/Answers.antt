use Rattle.std.proofs.Common.{◌≡◌, List, ◌++◌, ◌∷◌, [], refl, sym, ap, ◌∙◌, arith}
use Rattle.std.specs.Prelude.{map}
use Rattle.std.proofs.lemmas.{Result.err_from_is_err_and, List.map_push}
use Rattle.lft_syntax.specs.{Lexeme.{Symbol, is}, inner.{Reading.{repeated, after_comma, assign_at, with_front}, Parsing.words}}
use Rattle.lft_syntax.specs.Placed.{AssignmentStands, assignment_tokens}
use Rattle.lft_syntax.proofs.{Loop.{inside, loop_starts_behind, loop_fails, loop_turns, loop_done}, Rows.row_push, Rules.near_looks, Lists.right_after_comma}
use Rattle.lft_syntax.proofs.Instances.{right_assign}
use Rattle.lft_tree.specs.{declared.tree.Assignment.Assignment, View.assignment_view}
use Rattle.lft_syntax.proofs.parser.instances.more_assignments.Goals as goal

pub list-init : goal.list-init
list-init c =
    let ws = words c.args.input.now in
    let e : c.push.new.self.items ≡ c.args.first ∷ [] = c.in_ok-push.ensures.items ∙ ap (λ (l : List Assignment). l ++ c.args.first ∷ []) c.new-assignments.ensures.items in
    (rw e (loop_starts_behind (is (Symbol 44)) (after_comma assign_at) ws (assignment_view c.args.first) c.args.at), [], e, ((c.requires.0, tt), omega (arith, c.requires.1)))

pub returns-in_err-assignment : goal.returns-in_err-assignment
returns-in_err-assignment c =
    let p = err_from_is_err_and c.from_residual-in_err-assignment.result c.from_residual-in_err-assignment.ensures.1 in
    let ws = words c.args.input.now in
    rw (p.1, p.2) (record {
      gives = loop_fails (is (Symbol 44)) (after_comma assign_at) ws (with_front (assignment_view c.args.first ∷ []) (repeated (is (Symbol 44)) (after_comma assign_at) ws c.args.at))
          (map assignment_view c.list.assignments.items) c.list.next c.in_err-assignment.field-0.0 c.list.invariant.0 (sym c.is_symbol.ensures ∙ c.list-test.true) c.in_err-assignment.ensures.gives;
      stand = tt;
    })

pub list-smaller : goal.list-smaller
list-smaller c =
    let ws = words c.args.input.now in
    let t = loop_turns (is (Symbol 44)) (after_comma assign_at) ws (with_front (assignment_view c.args.first ∷ []) (repeated (is (Symbol 44)) (after_comma assign_at) ws c.args.at)) 1 (right_after_comma near_looks right_assign)
    (map assignment_view c.list.assignments.items) c.list.next (assignment_view c.in_ok-assignment.assignment) c.in_ok-assignment.after c.list.invariant.0 (inside (is (Symbol 44)) refl ws c.list.next (sym c.is_symbol.ensures ∙ c.list-test.true)) (sym c.is_symbol.ensures ∙ c.list-test.true) c.in_ok-assignment.ensures.gives in
    omega (arith, t.1, t.2)

pub list-preserved : goal.list-preserved
list-preserved c =
    let ws = words c.args.input.now in
    let e : map assignment_view c.push-in-list.new.self.items ≡ map assignment_view c.list.assignments.items ++ assignment_view c.in_ok-assignment.assignment ∷ [] = rw c.in_ok-push-2.ensures.items (map_push _ c.list.assignments.items c.in_ok-assignment.assignment) in
    let t = loop_turns (is (Symbol 44)) (after_comma assign_at) ws (with_front (assignment_view c.args.first ∷ []) (repeated (is (Symbol 44)) (after_comma assign_at) ws c.args.at)) 1 (right_after_comma near_looks right_assign)
    (map assignment_view c.list.assignments.items) c.list.next (assignment_view c.in_ok-assignment.assignment) c.in_ok-assignment.after c.list.invariant.0 (inside (is (Symbol 44)) refl ws c.list.next (sym c.is_symbol.ensures ∙ c.list-test.true)) (sym c.is_symbol.ensures ∙ c.list-test.true) c.in_ok-assignment.ensures.gives in
    let rest = c.list.invariant.1 in
    let row = c.list.invariant.3 in
    let added : List Assignment = c.in_ok-assignment.assignment ∷ [] in
    (rw e t.0, rest ++ added, c.in_ok-push-2.ensures.items ∙ ap (λ (l : List Assignment). l ++ added) c.list.invariant.2, row_push (AssignmentStands ws) (assignment_tokens ws) c.args.first.at c.list.next c.in_ok-assignment.after c.args.first rest c.in_ok-assignment.assignment row c.in_ok-assignment.ensures.stands)

pub returns : goal.returns
returns c =
    let ws = words c.args.input.now in
    record {
      gives = loop_done (is (Symbol 44)) (after_comma assign_at) ws (with_front (assignment_view c.args.first ∷ []) (repeated (is (Symbol 44)) (after_comma assign_at) ws c.args.at))
          (map assignment_view c.list.assignments.items) c.list.next c.list.invariant.0 (sym c.is_symbol.ensures ∙ c.list-test.false);
      stand = rw c.list.invariant.2 c.list.invariant.3;
    }
