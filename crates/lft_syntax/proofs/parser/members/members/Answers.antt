use Rattle.std.proofs.Common.{◌≡◌, ◌++◌, ◌∷◌, [], refl, sym, ◌∙◌, ap, arith}
use Rattle.std.proofs.lemmas.{Result.err_from_is_err_and, List.map_push}
use Rattle.lft_syntax.specs.{Lexeme.negated, inner.{Reading.{is_inside, member_at, members_at}, Parsing.words}}
use Rattle.lft_syntax.proofs.{Loop.{loop_starts, loop_fails, loop_turns, loop_done, known}, Rows.many_push, Members.right_member}
use Rattle.lft_tree.specs.View.{member_view, member_views}
use Rattle.lft_syntax.specs.Placed as Placed
use Rattle.lft_syntax.proofs.parser.members.members.Goals as goal

pub list-init : goal.list-init
unfolding members_at
list-init c =
    let e : member_views c.new-members.result.items ≡ [] = ap member_views c.new-members.ensures.items in
    (c.requires, rw e (loop_starts is_inside member_at (words c.args.input.now) c.args.at), rw c.new-members.ensures.items refl)

pub returns-in_err-member : goal.returns-in_err-member
returns-in_err-member c =
    let p = err_from_is_err_and c.from_residual.result c.from_residual.ensures.1 in
    let ws = words c.args.input.now in
    rw (p.1, p.2) (record {
      gives = loop_fails is_inside member_at ws (members_at ws c.args.at)
          (member_views c.list.members.items) c.list.next c.in_err-member.field-0.0 c.list.invariant.1 (ap negated (sym c.is_symbol.ensures ∙ c.list-test.true)) c.in_err-member.ensures.gives;
      stand = tt;
    })

pub list-smaller : goal.list-smaller
list-smaller c =
    let ws = words c.args.input.now in
    let t = loop_turns is_inside member_at ws (members_at ws c.args.at) 0 right_member
    (member_views c.list.members.items) c.list.next (member_view c.in_ok-member.member) c.in_ok-member.after c.list.invariant.1 c.list.invariant.0 (ap negated (sym c.is_symbol.ensures ∙ c.list-test.true)) c.in_ok-member.ensures.gives in
    omega (arith, t.1, t.2)

pub list-preserved : goal.list-preserved
list-preserved c =
    let ws = words c.args.input.now in
    let e : member_views c.push.new.self.items ≡ member_views c.list.members.items ++ member_view c.in_ok-member.member ∷ [] = rw c.in_ok-push.ensures.items (map_push _ c.list.members.items c.in_ok-member.member) in
    let t = loop_turns is_inside member_at ws (members_at ws c.args.at) 0 right_member
    (member_views c.list.members.items) c.list.next (member_view c.in_ok-member.member) c.in_ok-member.after c.list.invariant.1 c.list.invariant.0 (ap negated (sym c.is_symbol.ensures ∙ c.list-test.true)) c.in_ok-member.ensures.gives in
    let spelled = (known right_member ws c.list.next c.list.invariant.0 (member_view c.in_ok-member.member) c.in_ok-member.after c.in_ok-member.ensures.gives).found in
    (t.2, rw e t.0, rw c.in_ok-push.ensures.items (many_push Placed.member ws c.args.at c.list.next c.in_ok-member.after c.list.members.items c.in_ok-member.member c.list.invariant.2 (spelled, c.in_ok-member.ensures.stands)))

pub returns : goal.returns
returns c =
    let ws = words c.args.input.now in
    record {
      gives = loop_done is_inside member_at ws (members_at ws c.args.at)
          (member_views c.list.members.items) c.list.next c.list.invariant.1 (ap negated (sym c.is_symbol.ensures ∙ c.list-test.false));
      stand = c.list.invariant.2;
    }
