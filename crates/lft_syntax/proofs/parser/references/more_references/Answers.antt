use Rattle.std.proofs.Common.{◌≡◌, List, ◌++◌, ◌∷◌, [], refl, sym, ap, ◌∙◌, arith}
use Rattle.std.proofs.lemmas.{Result.err_from_is_err_and, List.map_push}
use Rattle.lft_syntax.specs.{Lexeme.{Symbol, is}, inner.{Reading.{repeated, after_comma, ref_at, with_front}, Parsing.words}}
use Rattle.lft_syntax.specs.Placed.{ReferenceStands, reference_tokens}
use Rattle.lft_syntax.proofs.{Loop.{inside, loop_starts_behind, loop_fails, loop_turns, loop_done}, Rows.row_push, Rules.near_looks, Lists.right_after_comma}
use Rattle.lft_syntax.proofs.References.{right_ref}
use Rattle.lft_tree.specs.{declared.tree.Reference.Reference, View.{ref_view, ref_views}}
use Rattle.lft_syntax.proofs.parser.references.more_references.Goals as goal

pub list-init : goal.list-init
list-init c =
    let ws = words c.args.input.now in
    let e : c.push.new.self.items ≡ c.args.first ∷ [] = c.in_ok-push.ensures.items ∙ ap (λ (l : List Reference). l ++ c.args.first ∷ []) c.new-references.ensures.items in
    (rw e (loop_starts_behind (is (Symbol 44)) (after_comma ref_at) ws (ref_view c.args.first) c.args.at), [], e, ((c.requires.0, tt), omega (arith, c.requires.1)))

pub returns-in_err-reference : goal.returns-in_err-reference
returns-in_err-reference c =
    let p = err_from_is_err_and c.from_residual-in_err-reference.result c.from_residual-in_err-reference.ensures.1 in
    let ws = words c.args.input.now in
    rw (p.1, p.2) (record {
      gives = loop_fails (is (Symbol 44)) (after_comma ref_at) ws (with_front (ref_view c.args.first ∷ []) (repeated (is (Symbol 44)) (after_comma ref_at) ws c.args.at))
          (ref_views c.list.references.items) c.list.next c.in_err-reference.field-0.0 c.list.invariant.0 (sym c.is_symbol.ensures ∙ c.list-test.true) c.in_err-reference.ensures.gives;
      stand = tt;
    })

pub list-smaller : goal.list-smaller
list-smaller c =
    let ws = words c.args.input.now in
    let t = loop_turns (is (Symbol 44)) (after_comma ref_at) ws (with_front (ref_view c.args.first ∷ []) (repeated (is (Symbol 44)) (after_comma ref_at) ws c.args.at)) 1 (right_after_comma near_looks right_ref)
    (ref_views c.list.references.items) c.list.next (ref_view c.in_ok-reference.reference) c.in_ok-reference.after c.list.invariant.0 (inside (is (Symbol 44)) refl ws c.list.next (sym c.is_symbol.ensures ∙ c.list-test.true)) (sym c.is_symbol.ensures ∙ c.list-test.true) c.in_ok-reference.ensures.gives in
    omega (arith, t.1, t.2)

pub list-preserved : goal.list-preserved
list-preserved c =
    let ws = words c.args.input.now in
    let e : ref_views c.push-in-list.new.self.items ≡ ref_views c.list.references.items ++ ref_view c.in_ok-reference.reference ∷ [] = rw c.in_ok-push-2.ensures.items (map_push _ c.list.references.items c.in_ok-reference.reference) in
    let t = loop_turns (is (Symbol 44)) (after_comma ref_at) ws (with_front (ref_view c.args.first ∷ []) (repeated (is (Symbol 44)) (after_comma ref_at) ws c.args.at)) 1 (right_after_comma near_looks right_ref)
    (ref_views c.list.references.items) c.list.next (ref_view c.in_ok-reference.reference) c.in_ok-reference.after c.list.invariant.0 (inside (is (Symbol 44)) refl ws c.list.next (sym c.is_symbol.ensures ∙ c.list-test.true)) (sym c.is_symbol.ensures ∙ c.list-test.true) c.in_ok-reference.ensures.gives in
    let rest = c.list.invariant.1 in
    let row = c.list.invariant.3 in
    let added : List Reference = c.in_ok-reference.reference ∷ [] in
    (rw e t.0, rest ++ added, c.in_ok-push-2.ensures.items ∙ ap (λ (l : List Reference). l ++ added) c.list.invariant.2, row_push (ReferenceStands ws) reference_tokens c.args.first.at c.list.next c.in_ok-reference.after c.args.first rest c.in_ok-reference.reference row c.in_ok-reference.ensures.stands)

pub returns : goal.returns
returns c =
    let ws = words c.args.input.now in
    record {
      gives = loop_done (is (Symbol 44)) (after_comma ref_at) ws (with_front (ref_view c.args.first ∷ []) (repeated (is (Symbol 44)) (after_comma ref_at) ws c.args.at))
          (ref_views c.list.references.items) c.list.next c.list.invariant.0 (sym c.is_symbol.ensures ∙ c.list-test.false);
      stand = rw c.list.invariant.2 c.list.invariant.3;
    }
