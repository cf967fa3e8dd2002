use Rattle.std.proofs.Common.{◌<◌, ◌≤◌, List, ℕ, refl, sym, ap, ◌∙◌, arith}
use Rattle.std.proofs.lemmas.List.{append-nil}
use Rattle.lft_tree.specs.{Tree.{MemberTree, PortMember}, View.{member_view, member_views}}
use Rattle.lft_lower.{specs.inner.Meanings.Places.{count_of, name_at, several}, proofs.{Named.{named_all, named_grown}, Standing.{at_more, at_none}}}
use Rattle.lft_lower.proofs.reactors.push_ports.Goals as goal

pub loop-number-init : goal.loop-number-init
loop-number-init c = (sym (append-nil (member_views c.args.list.now.items)), at_none c.args.list.now.items c.args.at _ tt)

pub loop-number-preserved : goal.loop-number-preserved
loop-number-preserved c =
    let x = several c.args.channels in
    let f : List ℕ → MemberTree = λ name. PortMember (record { name = name; is_input = c.args.is_input }) in
    let number = c.loop-number.number in
    let test = c.loop-number-test.true in
    let less : number < count_of x = omega (arith, c.count-number-end.ensures) in (
      named_grown member_view f (name_at x) (count_of x) number c.loop-number.list.items _ _ (member_views c.args.list.now.items) less c.in_ok-push.ensures.items (ap f (c.in_ok-counted.ensures.text ∙ c.at.ensures)) c.loop-number.invariant.0,
      at_more c.args.list.now.items c.loop-number.list.items _ _ c.args.at _ _ c.loop-number.invariant.1 c.in_ok-push.ensures.items refl (λ parts none. tt),
    )

pub returns-clause-made : goal.returns-clause-made
returns-clause-made c =
    let x = several c.args.channels in
    let test = c.loop-number-test.false in
    let all : count_of x ≤ c.loop-number.number = omega (arith, c.count-number-end.ensures) in
    named_all (λ name. PortMember (record { name = name; is_input = c.args.is_input })) (name_at x) (count_of x) c.loop-number.number _ (member_views c.args.list.now.items) all c.loop-number.invariant.0

pub returns-clause-at : goal.returns-clause-at
returns-clause-at c = c.loop-number.invariant.1
