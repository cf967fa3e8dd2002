use Rattle.std.proofs.Common.{◌≡◌, ℕ, ◌++◌, ◌∷◌, [], length, refl, sym, subst, ◌∙◌, ap, arith}
use Rattle.std.proofs.lemmas.{Result.err_from_is_err_and, List.map_push}
use Rattle.lft_syntax.specs.{Lexeme.is_there, inner.{Reading.{item_at, items_at}, Parsing.words}, Language.many}
use Rattle.lft_syntax.proofs.{Loop.{all_read, loop_starts, loop_fails, loop_turns, loop_done}, Rows.many_push, Files.right_item}
use Rattle.lft_tree.specs.View.{item_view, item_views}
use Rattle.lft_syntax.specs.Placed as Placed
use Rattle.lft_syntax.proofs.parser.file.items.Goals as goal

pub list-init : goal.list-init
unfolding items_at
list-init c =
    let e : item_views c.new-items.result.items ≡ [] = ap item_views c.new-items.ensures.items in
    (c.requires, rw e (loop_starts is_there item_at (words c.args.input.now) c.args.at), rw c.new-items.ensures.items refl)

pub returns-in_err-item : goal.returns-in_err-item
returns-in_err-item c =
    let p = err_from_is_err_and c.from_residual.result c.from_residual.ensures.1 in
    let ws = words c.args.input.now in
    rw (p.1, p.2) (record {
      gives = loop_fails is_there item_at ws (items_at ws c.args.at)
          (item_views c.list.items.items) c.list.next c.in_err-item.field-0.0 c.list.invariant.1 (sym c.is_there.ensures ∙ c.list-test.true) c.in_err-item.ensures.gives;
      stand = tt;
    })

pub list-smaller : goal.list-smaller
list-smaller c =
    let ws = words c.args.input.now in
    let t = loop_turns is_there item_at ws (items_at ws c.args.at) 0 right_item
    (item_views c.list.items.items) c.list.next (item_view c.in_ok-item.item) c.in_ok-item.after c.list.invariant.1 c.list.invariant.0 (sym c.is_there.ensures ∙ c.list-test.true) c.in_ok-item.ensures.gives in
    omega (arith, t.1, t.2)

pub list-preserved : goal.list-preserved
list-preserved c =
    let ws = words c.args.input.now in
    let e : item_views c.push.new.self.items ≡ item_views c.list.items.items ++ item_view c.in_ok-item.item ∷ [] = rw c.in_ok-push.ensures.items (map_push _ c.list.items.items c.in_ok-item.item) in
    let t = loop_turns is_there item_at ws (items_at ws c.args.at) 0 right_item
    (item_views c.list.items.items) c.list.next (item_view c.in_ok-item.item) c.in_ok-item.after c.list.invariant.1 c.list.invariant.0 (sym c.is_there.ensures ∙ c.list-test.true) c.in_ok-item.ensures.gives in
    (t.2, rw e t.0, rw c.in_ok-push.ensures.items (many_push Placed.item ws c.args.at c.list.next c.in_ok-item.after c.list.items.items c.in_ok-item.item c.list.invariant.2 c.in_ok-item.ensures.stands))

pub returns : goal.returns
returns c =
    let ws = words c.args.input.now in
    let unread = sym c.is_there.ensures ∙ c.list-test.false in
    let end : c.list.next ≡ length ws = all_read ws c.list.next c.list.invariant.0 unread in
    record {
      gives = loop_done is_there item_at ws (items_at ws c.args.at)
          (item_views c.list.items.items) c.list.next c.list.invariant.1 unread;
      stand = subst (λ (k : ℕ). many Placed.item ws c.args.at k c.list.items.items) end c.list.invariant.2;
    }
