use Rattle.std.proofs.Common.{◌≡◌, ◌∷◌, ◌<◌, ◌≤◌, List, ℕ, map, string_bytes, sym, ap, ◌∙◌, arith, refl, rules}
use Rattle.std.{proofs.lemmas.List.{append-nil, Elements.{All-nil, All-push}}, specs.List.flat_map}
use Rattle.lft_lower.specs.inner.{Standing.given_tokens, Meanings.Places.{count_of, name_at, several}}
use Rattle.lft_lower.proofs.{Named.{named_all, named_grown}, Standing.{AreThese, at_more, at_none}}
use Rattle.lft_tree.specs.{Tree.{AssignmentTree, MemberTree, InstanceMember}, View.{assignment_view, member_view, member_views}}
use Rattle.lft_lower.proofs.instances.push_each.Goals as goal

abbrev made : List ℕ → List ℕ → List AssignmentTree → MemberTree
made name reactor given = InstanceMember (record { name = name; reactor = reactor; given = given })

is_made : (name reactor name_is reactor_is : List ℕ) (given given_are : List AssignmentTree) → name ≡ name_is → reactor ≡ reactor_is → given ≡ given_are → made name reactor given ≡ made name_is reactor_is given_are
is_made name reactor name_is reactor_is given given_are n r g = ap (λ q. made q reactor given) n ∙ ap (λ q. made name_is q given) r ∙ ap (made name_is reactor_is) g

pub loop-number-init : goal.loop-number-init
loop-number-init c = (sym (append-nil (member_views c.args.list.now.items)), at_none c.args.list.now.items c.args.at _ (All-nil (AreThese (c.args.reactor_at ∷ flat_map given_tokens c.args.given.now))))

pub loop-number-preserved : goal.loop-number-preserved
loop-number-preserved c =
    let x = several c.args.members in
    let f : List ℕ → MemberTree = λ name. made name c.args.reactor.now (map assignment_view c.args.given.now) in
    let number = c.loop-number.number in
    let test = c.loop-number-test.true in
    let less : number < count_of x = omega (arith, c.count-number-end.ensures) in
    let named : string_bytes c.in_ok-from_str.field-0 ≡ c.args.reactor.now = search rules in (
      named_grown member_view f (name_at x) (count_of x) number c.loop-number.list.items _ _ (member_views c.args.list.now.items) less c.in_ok-push.ensures.items (is_made (string_bytes c.in_ok-counted.field-0) (string_bytes c.in_ok-from_str.field-0) (name_at x number) c.args.reactor.now (map assignment_view c.in_ok-copied_given.field-0.items) (map assignment_view c.args.given.now) (c.in_ok-counted.ensures.text ∙ c.at.ensures) named c.in_ok-copied_given.ensures.copy) c.loop-number.invariant.0,
      at_more c.args.list.now.items c.loop-number.list.items _ _ c.args.at _ _ c.loop-number.invariant.1 c.in_ok-push.ensures.items refl (λ parts all. All-push (AreThese (c.args.reactor_at ∷ flat_map given_tokens c.args.given.now)) parts _ all (ap (λ ts. c.args.reactor_at ∷ ts) c.in_ok-copied_given.ensures.at)),
    )

pub returns-clause-made : goal.returns-clause-made
returns-clause-made c =
    let x = several c.args.members in
    let test = c.loop-number-test.false in
    let all : count_of x ≤ c.loop-number.number = omega (arith, c.count-number-end.ensures) in
    named_all (λ name. InstanceMember (record { name = name; reactor = c.args.reactor.now; given = map assignment_view c.args.given.now })) (name_at x) (count_of x) c.loop-number.number _ (member_views c.args.list.now.items) all c.loop-number.invariant.0

pub returns-clause-at : goal.returns-clause-at
returns-clause-at c = c.loop-number.invariant.1
