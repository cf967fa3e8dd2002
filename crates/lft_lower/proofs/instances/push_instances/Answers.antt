use Rattle.std.proofs.Common.{◌≡◌, ◌∷◌, ◌++◌, map, string_bytes, sym, ap, ◌∙◌, arith}
use Rattle.std.{specs.List.{All, flat_map}, proofs.lemmas.List.Elements.{All-nil, All-weaker}}
use Rattle.lft_tree.specs.View.{assignment_view, member_views}
use Rattle.lft_lower.specs.inner.{Meanings.{Meanings.{here, token_in}, Names.texts, Places.{several, count_of}}, Lowered.instances}
use Rattle.lft_lower.specs.inner.Standing.{given_tokens, instance_tokens}
use Rattle.lft_lower.proofs.{Adding.{instances_none, instances_some}, Standing.{AreThese, at_as, at_none, at_this}}
use Rattle.lft_lower.proofs.instances.push_instances.Goals as goal

pub returns-then-count-eq0-clause-made : goal.returns-then-count-eq0-clause-made
returns-then-count-eq0-clause-made c same =
    let none : c.count.result ≡ 0 = omega arith in
    instances_none (texts c.args.maker.names.now) (here c.args.within) c.args.member (string_bytes c.args.instance.now.name.text) c.args.list.now.items (ap count_of (sym c.named-members.ensures) ∙ sym c.count.ensures ∙ none)

pub returns-clause-made : goal.returns-clause-made
returns-clause-made c same = instances_some (texts c.args.maker.names.now) (here c.args.within) c.args.member (string_bytes c.args.instance.now.name.text) c.args.list.now.items _ (several c.named-members.result) _ _ c.named-members.ensures c.in_ok-reactor.ensures.name (c.in_ok-given.ensures.given same) (c.in_ok-push_each.ensures.made ∙ ap (λ gs. member_views c.args.list.now.items ++ instances (several c.named-members.result) c.in_ok-reactor.reactor.now (map assignment_view gs)) c.deref.ensures.value)

pub returns-then-count-eq0-clause-at : goal.returns-then-count-eq0-clause-at
returns-then-count-eq0-clause-at c = at_none c.args.list.now.items _ _ (All-nil (AreThese (instance_tokens (token_in c.args.within) (here c.args.within) c.args.member c.args.instance.now)))

pub returns-clause-at : goal.returns-clause-at
returns-clause-at c =
    let old = c.args.list.now.items in
    let number = token_in c.args.within in
    let made : c.token-reactor_at.result ∷ flat_map given_tokens c.deref.result.now ≡ instance_tokens number (here c.args.within) c.args.member c.args.instance.now = ap (λ at. at ∷ flat_map given_tokens c.deref.result.now) c.token-reactor_at.ensures
    ∙ ap (λ ts. number c.args.instance.now.reactor.at ∷ ts) (ap (flat_map given_tokens) c.deref.ensures.value ∙ c.in_ok-given.ensures.at) in
    let adds = at_as old _ _ (All (AreThese (c.token-reactor_at.result ∷ flat_map given_tokens c.deref.result.now))) (All (AreThese (instance_tokens number (here c.args.within) c.args.member c.args.instance.now))) c.in_ok-push_each.ensures.at (λ parts all. All-weaker (AreThese (c.token-reactor_at.result ∷ flat_map given_tokens c.deref.result.now)) (AreThese (instance_tokens number (here c.args.within) c.args.member c.args.instance.now)) (λ tokens is. is ∙ made) parts all) in
    at_this old _ _ _ _ c.token-at.ensures adds
